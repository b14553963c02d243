-- Bytes that are given in blocks, one block after another.
use Rattle.std.proofs.Common.{◌≡◌, ◌∙◌, ℕ, List, [], ◌∷◌, ◌++◌, Option, length, take, take-append-drop, refl, ap, sym, append_assoc, append-nil, ◌+◌, ◌<◌, Result, Ok, Err, OnErr, drop, map, get_or}
use Rattle.std.specs.Io.KnownBytes.{Appends}
use Rattle.std.proofs.KnownBytes.{Appends-nil, Appends-trans}
use Rattle.std.proofs.lemmas.List.{take_at, drop_more}
use Rattle.gh_base.specs.Causes.{AppendsFront}
use Rattle.plain_map.specs.Printing.{lines_text}
use Rattle.plain_map.specs.Sending.{Sends}

-- nothing yet
pub sends_none : (a : Option (List ℕ)) (bytes : List ℕ) → Sends a a bytes bytes
sends_none a bytes = ([], Appends-nil a, refl)

-- all at once
pub sends_all : (a b : Option (List ℕ)) (bytes : List ℕ) → Appends a b bytes → Sends a b bytes []
sends_all a b bytes given = (bytes, given, append-nil bytes)

-- of what was left a front more
pub sends_more : (a b c : Option (List ℕ)) (bytes left more rest : List ℕ) → Sends a b bytes (left ++ more) → Sends b c left rest → Sends a c bytes (rest ++ more)
sends_more a b c bytes left more rest first second = (
  first.0 ++ second.0,
  Appends-trans a b c first.0 second.0 first.1 second.1,
  append_assoc first.0 second.0 (rest ++ more) ∙ ap (λ l. first.0 ++ l) (sym (append_assoc second.0 rest more) ∙ ap (λ l. l ++ more) second.2) ∙ first.2,
)

-- more bytes behind
pub sends_wide : (a b : Option (List ℕ)) (bytes rest more : List ℕ) → Sends a b bytes rest → Sends a b (bytes ++ more) (rest ++ more)
sends_wide a b bytes rest more sent = (sent.0, sent.1, sym (append_assoc sent.0 rest more) ∙ ap (λ l. l ++ more) sent.2)

front_of : (a b : Option (List ℕ)) (front bytes : List ℕ) → Appends a b front → take (length front) bytes ≡ front → AppendsFront a b bytes
front_of a b front bytes given e = (length front, rw e given)

front_same : (front rest bytes : List ℕ) → front ++ rest ≡ bytes → take (length front) bytes ≡ front
front_same front rest bytes e = rw (← e) (take_at front rest (length front) refl)

-- what was given is a front
pub front_sent : (a b : Option (List ℕ)) (bytes rest : List ℕ) → Sends a b bytes rest → AppendsFront a b bytes
front_sent a b bytes rest sent = front_of a b sent.0 bytes sent.1 (front_same sent.0 rest bytes sent.2)

-- and a front of what was left is one too
pub front_more : (a b c : Option (List ℕ)) (bytes left more : List ℕ) → Sends a b bytes (left ++ more) → AppendsFront b c left → AppendsFront a c bytes
front_more a b c bytes left more sent failed = front_sent a c bytes _ (sends_more a b c bytes left more _ sent (take failed.0 left, failed.1, take-append-drop failed.0 left))

pub front_wide : (a b : Option (List ℕ)) (bytes more : List ℕ) → AppendsFront a b bytes → AppendsFront a b (bytes ++ more)
front_wide a b bytes more failed = front_sent a b (bytes ++ more) _ (sends_wide a b bytes _ more (take failed.0 bytes, failed.1, take-append-drop failed.0 bytes))

pub on_err : {T E P : Type 0} (r : Result T E) → P → OnErr r P
on_err (Ok x) p = tt
on_err (Err e) p = p

-- a line more waits
pub line_more : {X : Type 0} (text : X → List ℕ) (xs : List X) (i : ℕ) (d : X) (waiting now : List ℕ) → i < length xs → now ≡ waiting ++ (text (get_or xs i d) ++ 10 ∷ []) → now ++ lines_text (map text (drop (i + 1) xs)) ≡ waiting ++ lines_text (map text (drop i xs))
line_more text xs i d waiting now h w =
    let rest = lines_text (map text (drop (i + 1) xs)) in
    rw (drop_more xs i d h, w) (append_assoc waiting (text (get_or xs i d) ++ 10 ∷ []) rest ∙ ap (λ l. waiting ++ l) (append_assoc (text (get_or xs i d)) (10 ∷ []) rest))

-- and is left to give
pub sends_line : {X : Type 0} (text : X → List ℕ) (xs : List X) (i : ℕ) (d : X) (a b : Option (List ℕ)) (bytes waiting now : List ℕ) → i < length xs → now ≡ waiting ++ (text (get_or xs i d) ++ 10 ∷ []) → Sends a b bytes (waiting ++ lines_text (map text (drop i xs))) → Sends a b bytes (now ++ lines_text (map text (drop (i + 1) xs)))
sends_line text xs i d a b bytes waiting now h w sent = rw (line_more text xs i d waiting now h w) sent

-- alike, where the item is known by its place
pub sends_item : {X : Type 0} (text : X → List ℕ) (xs : List X) (i : ℕ) (x : X) (a b : Option (List ℕ)) (bytes waiting now : List ℕ) → i < length xs → x ≡ get_or xs i x → now ≡ waiting ++ (text x ++ 10 ∷ []) → Sends a b bytes (waiting ++ lines_text (map text (drop i xs))) → Sends a b bytes (now ++ lines_text (map text (drop (i + 1) xs)))
sends_item text xs i x a b bytes waiting now h e w sent = sends_line text xs i x a b bytes waiting now h (rw (← e) w) sent

-- one run after another
pub sends_chain : (a b c : Option (List ℕ)) (bytes left rest more whole : List ℕ) → Sends a b bytes left → Sends b c (left ++ more) rest → bytes ++ more ≡ whole → Sends a c whole rest
sends_chain a b c bytes left rest more whole first second e = (
  first.0 ++ second.0,
  Appends-trans a b c first.0 second.0 first.1 second.1,
  append_assoc first.0 second.0 rest ∙ ap (λ l. first.0 ++ l) second.2 ∙ sym (append_assoc first.0 left more) ∙ ap (λ l. l ++ more) first.2 ∙ e,
)

sends_front : (a b : Option (List ℕ)) (bytes : List ℕ) → AppendsFront a b bytes → (rest : List ℕ) × Sends a b bytes rest
sends_front a b bytes failed = (drop failed.0 bytes, (take failed.0 bytes, failed.1, take-append-drop failed.0 bytes))

-- the first of two runs failed, the second did, or what came behind both
pub first_failed : (a b : Option (List ℕ)) (bytes more whole : List ℕ) → AppendsFront a b bytes → bytes ++ more ≡ whole → AppendsFront a b whole
first_failed a b bytes more whole failed e = rw (← e) (front_wide a b bytes more failed)

pub second_failed : (a b c : Option (List ℕ)) (bytes left more whole : List ℕ) → Sends a b bytes left → AppendsFront b c (left ++ more) → bytes ++ more ≡ whole → AppendsFront a c whole
second_failed a b c bytes left more whole first failed e =
    let second = sends_front b c (left ++ more) failed in
    front_sent a c whole second.0 (sends_chain a b c bytes left second.0 more whole first second.1 e)

pub last_failed : (a b c d : Option (List ℕ)) (bytes left more rest whole : List ℕ) → Sends a b bytes left → Sends b c (left ++ more) rest → AppendsFront c d rest → bytes ++ more ≡ whole → AppendsFront a d whole
last_failed a b c d bytes left more rest whole first second failed e =
    let third = sends_front c d rest failed in
    let both = sends_chain a b c bytes left rest more whole first second e in
    front_sent a d whole third.0 (both.0 ++ third.1.0, Appends-trans a c d both.0 third.1.0 both.1 third.1.1, append_assoc both.0 third.1.0 third.0 ∙ ap (λ l. both.0 ++ l) third.1.2 ∙ both.2)

pub whole_of : (empty nodes ways nodes2 ways2 : List ℕ) → empty ≡ [] → nodes ≡ nodes2 → ways ≡ ways2 → (empty ++ nodes) ++ ways ≡ nodes2 ++ ways2
whole_of empty nodes ways nodes2 ways2 e f g = rw (e, f, g) refl
