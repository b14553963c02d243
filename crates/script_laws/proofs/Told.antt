-- The words of a reply's line tell the reply.
use Rattle.std.proofs.Common.{◌≡◌, ◌≢◌, ◌∙◌, ℕ, zero, suc, ℤ, pos, negsuc, neg_ℤ, ◌+◌, ◌-◌, ◌*◌, ◌/◌, ◌%◌, ◌^◌, ◌<◌, ◌≤◌, List, [], ◌∷◌, ◌++◌, map, length, take, drop, get_or, Option, Some, None, Bool, true, false, eqb, nat_abs, refl, ap, sym, arith, append-nil, append_assoc, codes}
use Rattle.std.specs.Prelude.{decimal, if◌then◌else◌, ◌==◌, All, slice_index}
use Rattle.std.specs.Fmt.{signed_decimal}
use Rattle.std.specs.Str.{bytes_eq}
use Rattle.std.specs.Str.Parse.{digits_value}
use Rattle.std.proofs.lemmas.Bool.{ne_eqb}
use Rattle.std.proofs.lemmas.Fmt.{decimal_by_steps_wide, decimal_is_IsNumeral_wide}
use Rattle.std.proofs.lemmas.List.{append_cancel_right}
use Rattle.gh_base.specs.declared.edges.DirEdge.{DirEdge}
use Rattle.gh_base.specs.declared.edges.Hop.{Hop}
use Rattle.gh_base.specs.declared.kinds.JsonKind.{JsonKind}
use Rattle.gh_base.specs.declared.kinds.JsonKind.TheVariants as json
use Rattle.gh_base.specs.declared.kinds.ModelKind.{ModelKind}
use Rattle.gh_base.specs.declared.kinds.ModelKind.TheVariants as model
use Rattle.gh_base.specs.declared.kinds.Part.{Part}
use Rattle.gh_base.specs.declared.kinds.Part.TheVariants as part
use Rattle.gh_base.specs.Decimals.{is_minus}
use Rattle.gh_base.specs.Parts.{parts_of}
use Rattle.plain_map.proofs.Splits.{Each, each_append, each_more, Without, cut_at, cut_end}
use Rattle.plain_map.proofs.PrintedNumbers.{IsDigit}
use Rattle.plain_map.proofs.PrintedWords.{AllItems, all_items}
use Rattle.script_text.specs.declared.reply.Reply.{Reply}
use Rattle.script_text.specs.declared.reply.Reply.TheVariants as reply
use Rattle.script_text.specs.Replies.{direction_text, edge_text, hops_text, label_text, labels_text, reply_line, reply_text}
use Rattle.script_text.specs.Words.{json_word, model_word, part_word}
use Rattle.script_laws.specs.Writing.{spaced}
use Rattle.script_laws.specs.Telling.{Answer, AreAlike, HasWideNumbers, IsTellable, IsWide, IsWideLabel, line_of, told}
use Rattle.script_laws.proofs.Words.{all_graphic, no_space, word_graphic}
use Rattle.script_laws.proofs.Numbers.{front_of}

-- ---- words without a space

key : (word : List ℕ) → all_graphic word ≡ true → Without 32 word
key word h = no_space word (word_graphic word h)

all_words : (word : List ℕ) (words : List (List ℕ)) → AllItems (Without 32) (word ∷ words) → parts_of 32 (spaced (word ∷ words)) ≡ word ∷ words
all_words word [] h = cut_end 32 word h.0
all_words word (next ∷ words) h = cut_at 32 word (spaced (next ∷ words)) h.0 ∙ ap (λ (ws : List (List ℕ)). word ∷ ws) (all_words next words h.1)

-- ---- numbers

value : List ℕ → ℕ
value word = digits_value 10 word

value_again : (n : ℕ) → IsWide n → value (decimal n) ≡ n
unfolding value
value_again n h = (decimal_is_IsNumeral_wide n (omega (arith, h))).1

one_digit : (n : ℕ) → n < 10 → Each IsDigit ((48 + n) ∷ [])
one_digit n h = (record { low = omega arith; high = omega arith }, tt)

more_digits : (n : ℕ) (ds : List ℕ) → 10 ≤ n → Each IsDigit ds → Each IsDigit (ds ++ ((48 + n % 10) ∷ []))
more_digits n ds h each = each_append IsDigit ds _ each (record { low = omega arith; high = omega arith }, tt)

digits_are : (n : ℕ) → IsWide n → Each IsDigit (decimal n)
digits_are n h = decimal_by_steps_wide (λ n ds. Each IsDigit ds) one_digit more_digits n (omega (arith, h))

not_byte : (c b : ℕ) → c < 48 → IsDigit b → eqb b c ≡ false
not_byte c b low h = ne_eqb b c (λ e. omega (arith, e, low, h.low))

number_space : (n : ℕ) → IsWide n → Without 32 (decimal n)
number_space n h = each_more IsDigit (λ b. eqb b 32 ≡ false) (λ b k. not_byte 32 b (omega arith) k) (decimal n) (digits_are n h)

-- a word of digits isn't a minus, nor does it begin with one
no_dash : (ds : List ℕ) → Each IsDigit ds → bytes_eq ds (codes "-") ≡ false
no_dash [] h = refl
no_dash (b ∷ ds) h = rw (not_byte 45 b (omega arith) h.0) refl

no_minus : (ds : List ℕ) → Each IsDigit ds → is_minus ds ≡ false
no_minus [] h = refl
no_minus (b ∷ ds) h = not_byte 45 b (omega arith) h.0

id_from : List ℕ → ℤ
id_from word = if is_minus word then neg_ℤ (pos (value (drop 1 word))) else pos (value word)

id_again : (id : ℤ) → IsWide (nat_abs id) → id_from (signed_decimal id) ≡ id
unfolding id_from
id_again (pos n) h = rw (no_minus (decimal n) (digits_are n h), value_again n h) refl
id_again (negsuc n) h = ap (λ m. neg_ℤ (pos m)) (value_again (suc n) h)

id_space : (id : ℤ) → IsWide (nat_abs id) → Without 32 (signed_decimal id)
id_space (pos n) h = number_space n h
id_space (negsuc n) h = (refl, number_space (suc n) h)

-- ---- edges and labels

edge_from : List ℕ → DirEdge
edge_from word = record { edge = record { 0 = value (take (length word - 1) word) }; reverse = bytes_eq (drop (length word - 1) word) (codes "-") }

edge_by : (n : ℕ) (reverse : Bool) → IsWide n → edge_from (decimal n ++ direction_text reverse) ≡ record { edge = record { 0 = n }; reverse = reverse }
unfolding edge_from
edge_by n false h = let f = front_of (decimal n) 43 in rw (f.0, f.1, value_again n h) refl
edge_by n true h = let f = front_of (decimal n) 45 in rw (f.0, f.1, value_again n h) refl

edge_again : (edge : DirEdge) → IsWide edge.edge.0 → edge_from (edge_text edge) ≡ edge
unfolding edge_text
edge_again edge h = edge_by edge.edge.0 edge.reverse h

direction_space : (reverse : Bool) → Without 32 (direction_text reverse)
direction_space false = (refl, tt)
direction_space true = (refl, tt)

edge_space : (edge : DirEdge) → IsWide edge.edge.0 → Without 32 (edge_text edge)
unfolding edge_text
edge_space edge h = each_append (λ b. eqb b 32 ≡ false) (decimal edge.edge.0) (direction_text edge.reverse) (number_space edge.edge.0 h) (direction_space edge.reverse)

abbrev IsWideHop : Hop → Type 0
IsWideHop hop = IsWide hop.by.edge.0

abbrev hop_words : List Hop → List (List ℕ)
hop_words hops = map (λ hop. edge_text hop.by) hops

hops_again : (hops : List Hop) → AllItems IsWideHop hops → map edge_from (hop_words hops) ≡ map (λ hop. hop.by) hops
hops_again [] h = refl
hops_again (hop ∷ hops) h = rw (edge_again hop.by h.0, hops_again hops h.1) refl

hops_space : (hops : List Hop) → AllItems IsWideHop hops → AllItems (Without 32) (hop_words hops)
hops_space [] h = tt
hops_space (hop ∷ hops) h = (edge_space hop.by h.0, hops_space hops h.1)

spaced_hops : (word : List ℕ) (hops : List Hop) → word ++ hops_text hops ≡ spaced (word ∷ hop_words hops)
spaced_hops word [] = append-nil word
spaced_hops word (hop ∷ hops) = ap (λ (text : List ℕ). word ++ (32 ∷ text)) (spaced_hops (edge_text hop.by) hops)

label_from : List ℕ → Option ℕ
label_from word = if bytes_eq word (codes "-") then None else Some (value word)

label_again : (label : Option ℕ) → IsWideLabel label → label_from (label_text label) ≡ label
unfolding label_from
label_again None h = refl
label_again (Some n) h = rw (no_dash (decimal n) (digits_are n h), value_again n h) refl

label_space : (label : Option ℕ) → IsWideLabel label → Without 32 (label_text label)
label_space None h = (refl, tt)
label_space (Some n) h = number_space n h

labels_again : (labels : List (Option ℕ)) → AllItems IsWideLabel labels → map label_from (map label_text labels) ≡ labels
labels_again [] h = refl
labels_again (label ∷ labels) h = rw (label_again label h.0, labels_again labels h.1) refl

labels_space : (labels : List (Option ℕ)) → AllItems IsWideLabel labels → AllItems (Without 32) (map label_text labels)
labels_space [] h = tt
labels_space (label ∷ labels) h = (label_space label h.0, labels_space labels h.1)

spaced_labels : (word : List ℕ) (labels : List (Option ℕ)) → word ++ labels_text labels ≡ spaced (word ∷ map label_text labels)
spaced_labels word [] = append-nil word
spaced_labels word (label ∷ labels) = ap (λ (text : List ℕ). word ++ (32 ∷ text)) (spaced_labels (label_text label) labels)

-- ---- kinds and parts

abbrev json_from : List ℕ → JsonKind
json_from word =
    if bytes_eq word (codes "End") then json.End
    else if bytes_eq word (codes "Byte") then json.Byte
    else if bytes_eq word (codes "Utf8") then json.Utf8
    else if bytes_eq word (codes "Escape") then json.Escape
    else if bytes_eq word (codes "TooLong") then json.TooLong
    else if bytes_eq word (codes "TwiceKey") then json.TwiceKey
    else if bytes_eq word (codes "Depth") then json.Depth
    else json.After

json_again : (kind : JsonKind) → json_from (json_word kind) ≡ kind
json_again json.End = refl
json_again json.Byte = refl
json_again json.Utf8 = refl
json_again json.Escape = refl
json_again json.TooLong = refl
json_again json.TwiceKey = refl
json_again json.Depth = refl
json_again json.After = refl

json_space : (kind : JsonKind) → Without 32 (json_word kind)
json_space json.End = key (codes "End") refl
json_space json.Byte = key (codes "Byte") refl
json_space json.Utf8 = key (codes "Utf8") refl
json_space json.Escape = key (codes "Escape") refl
json_space json.TooLong = key (codes "TooLong") refl
json_space json.TwiceKey = key (codes "TwiceKey") refl
json_space json.Depth = key (codes "Depth") refl
json_space json.After = key (codes "After") refl

abbrev model_from : List ℕ → ModelKind
model_from word =
    if bytes_eq word (codes "NotObject") then model.NotObject
    else if bytes_eq word (codes "UnknownKey") then model.UnknownKey
    else if bytes_eq word (codes "NotList") then model.NotList
    else if bytes_eq word (codes "Statement") then model.Statement
    else if bytes_eq word (codes "NoIf") then model.NoIf
    else if bytes_eq word (codes "Condition") then model.Condition
    else if bytes_eq word (codes "Name") then model.Name
    else if bytes_eq word (codes "Number") then model.Number
    else if bytes_eq word (codes "Feature") then model.Feature
    else if bytes_eq word (codes "TwiceId") then model.TwiceId
    else if bytes_eq word (codes "Geometry") then model.Geometry
    else if bytes_eq word (codes "Ring") then model.Ring
    else if bytes_eq word (codes "Position") then model.Position
    else model.TooMany

model_again : (kind : ModelKind) → model_from (model_word kind) ≡ kind
model_again model.NotObject = refl
model_again model.UnknownKey = refl
model_again model.NotList = refl
model_again model.Statement = refl
model_again model.NoIf = refl
model_again model.Condition = refl
model_again model.Name = refl
model_again model.Number = refl
model_again model.Feature = refl
model_again model.TwiceId = refl
model_again model.Geometry = refl
model_again model.Ring = refl
model_again model.Position = refl
model_again model.TooMany = refl

model_space : (kind : ModelKind) → Without 32 (model_word kind)
model_space model.NotObject = key (codes "NotObject") refl
model_space model.UnknownKey = key (codes "UnknownKey") refl
model_space model.NotList = key (codes "NotList") refl
model_space model.Statement = key (codes "Statement") refl
model_space model.NoIf = key (codes "NoIf") refl
model_space model.Condition = key (codes "Condition") refl
model_space model.Name = key (codes "Name") refl
model_space model.Number = key (codes "Number") refl
model_space model.Feature = key (codes "Feature") refl
model_space model.TwiceId = key (codes "TwiceId") refl
model_space model.Geometry = key (codes "Geometry") refl
model_space model.Ring = key (codes "Ring") refl
model_space model.Position = key (codes "Position") refl
model_space model.TooMany = key (codes "TooMany") refl

abbrev part_from : List ℕ → Part
part_from word =
    if bytes_eq word (codes "top") then part.Top
    else if bytes_eq word (codes "areas") then part.Areas
    else if bytes_eq word (codes "speed") then part.Speed
    else if bytes_eq word (codes "priority") then part.Priority
    else part.Influence

part_again : (kind : Part) → part_from (part_word kind) ≡ kind
part_again part.Top = refl
part_again part.Areas = refl
part_again part.Speed = refl
part_again part.Priority = refl
part_again part.Influence = refl

part_space : (kind : Part) → Without 32 (part_word kind)
part_space part.Top = key (codes "top") refl
part_space part.Areas = key (codes "areas") refl
part_space part.Speed = key (codes "speed") refl
part_space part.Priority = key (codes "priority") refl
part_space part.Influence = key (codes "distance_influence") refl

-- ---- the words of a reply

abbrev key_of : Reply → List ℕ
key_of (reply.Route weight mm settled hops) = codes "route"
key_of (reply.Labels weight labels) = codes "labels"
key_of (reply.NoRoute settled) = codes "noroute"
key_of (reply.Overflow weight) = codes "overflow"
key_of (reply.NoSnap point) = codes "nosnap"
key_of (reply.NoNode id) = codes "nonode"
key_of reply.Taken = codes "taken"
key_of (reply.BadJson byte kind) = codes "badjson"
key_of (reply.BadModel place kind) = codes "badmodel"
key_of (reply.Speeds s) = codes "speeding"
key_of reply.Lowered = codes "lowered"
key_of (reply.NotLower now) = codes "notlower"
key_of reply.NoSuchEdge = codes "nosuchedge"
key_of reply.JournalFull = codes "journalfull"
key_of reply.Restored = codes "restored"
key_of (reply.NotHigher now) = codes "nothigher"
key_of (reply.OverBase base) = codes "overbase"
key_of (reply.Prepared landmarks) = codes "prepared"
key_of reply.NoLandmark = codes "nolandmark"
key_of reply.Published = codes "published"
key_of reply.Nothing = codes "nothing"
key_of (reply.NotInForce edge before now) = codes "notinforce"

abbrev rest_of : Reply → List (List ℕ)
rest_of (reply.Route weight mm settled hops) = decimal weight ∷ decimal mm ∷ decimal settled ∷ hop_words hops
rest_of (reply.Labels weight labels) = decimal weight ∷ map label_text labels
rest_of (reply.NoRoute settled) = decimal settled ∷ []
rest_of (reply.Overflow weight) = decimal weight ∷ []
rest_of (reply.NoSnap point) = decimal point ∷ []
rest_of (reply.NoNode id) = signed_decimal id ∷ []
rest_of reply.Taken = []
rest_of (reply.BadJson byte kind) = decimal byte ∷ json_word kind ∷ []
rest_of (reply.BadModel place kind) = part_word place.part ∷ decimal place.item ∷ decimal place.byte ∷ model_word kind ∷ []
rest_of (reply.Speeds s) = part_word s.part ∷ decimal s.item ∷ decimal s.value ∷ []
rest_of reply.Lowered = []
rest_of (reply.NotLower now) = decimal now ∷ []
rest_of reply.NoSuchEdge = []
rest_of reply.JournalFull = []
rest_of reply.Restored = []
rest_of (reply.NotHigher now) = decimal now ∷ []
rest_of (reply.OverBase base) = decimal base ∷ []
rest_of (reply.Prepared landmarks) = decimal landmarks ∷ []
rest_of reply.NoLandmark = []
rest_of reply.Published = []
rest_of reply.Nothing = []
rest_of (reply.NotInForce edge before now) = edge_text edge ∷ decimal before ∷ decimal now ∷ []

words_tell : (answer : Reply) → reply_text answer ≡ spaced (key_of answer ∷ rest_of answer)
words_tell (reply.Route weight mm settled hops) = ap (λ (text : List ℕ). codes "route " ++ (decimal weight ++ (codes " " ++ (decimal mm ++ (codes " " ++ text))))) (spaced_hops (decimal settled) hops)
words_tell (reply.Labels weight labels) = ap (λ (text : List ℕ). codes "labels " ++ text) (spaced_labels (decimal weight) labels)
words_tell (reply.NoRoute settled) = refl
words_tell (reply.Overflow weight) = refl
words_tell (reply.NoSnap point) = refl
words_tell (reply.NoNode id) = refl
words_tell reply.Taken = refl
words_tell (reply.BadJson byte kind) = refl
words_tell (reply.BadModel place kind) = refl
words_tell (reply.Speeds s) = refl
words_tell reply.Lowered = refl
words_tell (reply.NotLower now) = refl
words_tell reply.NoSuchEdge = refl
words_tell reply.JournalFull = refl
words_tell reply.Restored = refl
words_tell (reply.NotHigher now) = refl
words_tell (reply.OverBase base) = refl
words_tell (reply.Prepared landmarks) = refl
words_tell reply.NoLandmark = refl
words_tell reply.Published = refl
words_tell reply.Nothing = refl
words_tell (reply.NotInForce edge before now) = refl

key_space : (answer : Reply) → Without 32 (key_of answer)
key_space (reply.Route weight mm settled hops) = key (codes "route") refl
key_space (reply.Labels weight labels) = key (codes "labels") refl
key_space (reply.NoRoute settled) = key (codes "noroute") refl
key_space (reply.Overflow weight) = key (codes "overflow") refl
key_space (reply.NoSnap point) = key (codes "nosnap") refl
key_space (reply.NoNode id) = key (codes "nonode") refl
key_space reply.Taken = key (codes "taken") refl
key_space (reply.BadJson byte kind) = key (codes "badjson") refl
key_space (reply.BadModel place kind) = key (codes "badmodel") refl
key_space (reply.Speeds s) = key (codes "speeding") refl
key_space reply.Lowered = key (codes "lowered") refl
key_space (reply.NotLower now) = key (codes "notlower") refl
key_space reply.NoSuchEdge = key (codes "nosuchedge") refl
key_space reply.JournalFull = key (codes "journalfull") refl
key_space reply.Restored = key (codes "restored") refl
key_space (reply.NotHigher now) = key (codes "nothigher") refl
key_space (reply.OverBase base) = key (codes "overbase") refl
key_space (reply.Prepared landmarks) = key (codes "prepared") refl
key_space reply.NoLandmark = key (codes "nolandmark") refl
key_space reply.Published = key (codes "published") refl
key_space reply.Nothing = key (codes "nothing") refl
key_space (reply.NotInForce edge before now) = key (codes "notinforce") refl

rest_space : (answer : Reply) → HasWideNumbers answer → AllItems (Without 32) (rest_of answer)
rest_space (reply.Route weight mm settled hops) h = (number_space weight h.0, (number_space mm h.1, (number_space settled h.2, hops_space hops (all_items IsWideHop hops h.3))))
rest_space (reply.Labels weight labels) h = (number_space weight h.0, labels_space labels (all_items IsWideLabel labels h.1))
rest_space (reply.NoRoute settled) h = (number_space settled h, tt)
rest_space (reply.Overflow weight) h = (number_space weight h, tt)
rest_space (reply.NoSnap point) h = (number_space point h, tt)
rest_space (reply.NoNode id) h = (id_space id h, tt)
rest_space reply.Taken h = tt
rest_space (reply.BadJson byte kind) h = (number_space byte h, (json_space kind, tt))
rest_space (reply.BadModel place kind) h = (part_space place.part, (number_space place.item h.0, (number_space place.byte h.1, (model_space kind, tt))))
rest_space (reply.Speeds s) h = (part_space s.part, (number_space s.item h.0, (number_space s.value h.1, tt)))
rest_space reply.Lowered h = tt
rest_space (reply.NotLower now) h = (number_space now h, tt)
rest_space reply.NoSuchEdge h = tt
rest_space reply.JournalFull h = tt
rest_space reply.Restored h = tt
rest_space (reply.NotHigher now) h = (number_space now h, tt)
rest_space (reply.OverBase base) h = (number_space base h, tt)
rest_space (reply.Prepared landmarks) h = (number_space landmarks h, tt)
rest_space reply.NoLandmark h = tt
rest_space reply.Published h = tt
rest_space reply.Nothing h = tt
rest_space (reply.NotInForce edge before now) h = (edge_space edge h.0, (number_space before h.1, (number_space now h.2, tt)))

-- the word at a place
abbrev at : List (List ℕ) → ℕ → List ℕ
at words k = get_or words k []

-- the reply that a key and words tell
abbrev tell : List ℕ → List (List ℕ) → Reply × List DirEdge
tell key words =
    if bytes_eq key (codes "route") then (reply.Route (value (at words 0)) (value (at words 1)) (value (at words 2)) [], map edge_from (drop 3 words))
    else if bytes_eq key (codes "labels") then (reply.Labels (value (at words 0)) (map label_from (drop 1 words)), [])
    else if bytes_eq key (codes "noroute") then (reply.NoRoute (value (at words 0)), [])
    else if bytes_eq key (codes "overflow") then (reply.Overflow (value (at words 0)), [])
    else if bytes_eq key (codes "nosnap") then (reply.NoSnap (value (at words 0)), [])
    else if bytes_eq key (codes "nonode") then (reply.NoNode (id_from (at words 0)), [])
    else if bytes_eq key (codes "taken") then (reply.Taken, [])
    else if bytes_eq key (codes "badjson") then (reply.BadJson (value (at words 0)) (json_from (at words 1)), [])
    else if bytes_eq key (codes "badmodel") then (reply.BadModel (record { part = part_from (at words 0); item = value (at words 1); byte = value (at words 2) }) (model_from (at words 3)), [])
    else if bytes_eq key (codes "speeding") then (reply.Speeds (record { part = part_from (at words 0); item = value (at words 1); value = value (at words 2) }), [])
    else if bytes_eq key (codes "lowered") then (reply.Lowered, [])
    else if bytes_eq key (codes "notlower") then (reply.NotLower (value (at words 0)), [])
    else if bytes_eq key (codes "nosuchedge") then (reply.NoSuchEdge, [])
    else if bytes_eq key (codes "journalfull") then (reply.JournalFull, [])
    else if bytes_eq key (codes "restored") then (reply.Restored, [])
    else if bytes_eq key (codes "nothigher") then (reply.NotHigher (value (at words 0)), [])
    else if bytes_eq key (codes "overbase") then (reply.OverBase (value (at words 0)), [])
    else if bytes_eq key (codes "prepared") then (reply.Prepared (value (at words 0)), [])
    else if bytes_eq key (codes "nolandmark") then (reply.NoLandmark, [])
    else if bytes_eq key (codes "published") then (reply.Published, [])
    else if bytes_eq key (codes "nothing") then (reply.Nothing, [])
    else (reply.NotInForce (edge_from (at words 0)) (value (at words 1)) (value (at words 2)), [])

told_again : (answer : Reply) → HasWideNumbers answer → tell (key_of answer) (rest_of answer) ≡ told answer
told_again (reply.Route weight mm settled hops) h = rw (value_again weight h.0, value_again mm h.1, value_again settled h.2, hops_again hops (all_items IsWideHop hops h.3)) refl
told_again (reply.Labels weight labels) h = rw (value_again weight h.0, labels_again labels (all_items IsWideLabel labels h.1)) refl
told_again (reply.NoRoute settled) h = rw (value_again settled h) refl
told_again (reply.Overflow weight) h = rw (value_again weight h) refl
told_again (reply.NoSnap point) h = rw (value_again point h) refl
told_again (reply.NoNode id) h = rw (id_again id h) refl
told_again reply.Taken h = refl
told_again (reply.BadJson byte kind) h = rw (value_again byte h, json_again kind) refl
told_again (reply.BadModel place kind) h = rw (part_again place.part, value_again place.item h.0, value_again place.byte h.1, model_again kind) refl
told_again (reply.Speeds s) h = rw (part_again s.part, value_again s.item h.0, value_again s.value h.1) refl
told_again reply.Lowered h = refl
told_again (reply.NotLower now) h = rw (value_again now h) refl
told_again reply.NoSuchEdge h = refl
told_again reply.JournalFull h = refl
told_again reply.Restored h = refl
told_again (reply.NotHigher now) h = rw (value_again now h) refl
told_again (reply.OverBase base) h = rw (value_again base h) refl
told_again (reply.Prepared landmarks) h = rw (value_again landmarks h) refl
told_again reply.NoLandmark h = refl
told_again reply.Published h = refl
told_again reply.Nothing h = refl
told_again (reply.NotInForce edge before now) h = rw (edge_again edge h.0, value_again before h.1, value_again now h.2) refl

-- ---- the whole line

abbrev line_words : Answer → List (List ℕ)
line_words a = a.name ∷ decimal a.number ∷ decimal a.entries ∷ key_of a.reply ∷ rest_of a.reply

line_is : (a : Answer) → line_of a ≡ spaced (line_words a) ++ 10 ∷ []
unfolding reply_line
line_is a =
    let rest : List ℕ → List ℕ = λ text. a.name ++ (32 ∷ (decimal a.number ++ (32 ∷ (decimal a.entries ++ (32 ∷ text))))) in
    let text = spaced (key_of a.reply ∷ rest_of a.reply) in
    let as_words : line_of a ≡ rest (text ++ 10 ∷ []) = ap (λ (t : List ℕ). rest (t ++ 10 ∷ [])) (words_tell a.reply) in
    let entries : decimal a.entries ++ (32 ∷ (text ++ 10 ∷ [])) ≡ (decimal a.entries ++ (32 ∷ text)) ++ 10 ∷ [] = sym (append_assoc (decimal a.entries) (32 ∷ text) (10 ∷ [])) in
    let number : decimal a.number ++ (32 ∷ ((decimal a.entries ++ (32 ∷ text)) ++ 10 ∷ [])) ≡ (decimal a.number ++ (32 ∷ (decimal a.entries ++ (32 ∷ text)))) ++ 10 ∷ [] =
    sym (append_assoc (decimal a.number) (32 ∷ (decimal a.entries ++ (32 ∷ text))) (10 ∷ [])) in
    as_words ∙ ap (λ (t : List ℕ). a.name ++ (32 ∷ (decimal a.number ++ (32 ∷ t)))) entries ∙ ap (λ (t : List ℕ). a.name ++ (32 ∷ t)) number
    ∙ sym (append_assoc a.name (32 ∷ (decimal a.number ++ (32 ∷ (decimal a.entries ++ (32 ∷ text))))) (10 ∷ []))

not_space : (bytes : List ℕ) → AllItems (λ b. b ≢ 32) bytes → Without 32 bytes
not_space [] h = tt
not_space (b ∷ bytes) h = (ne_eqb b 32 h.0, not_space bytes h.1)

line_parts : (a : Answer) → IsTellable a → parts_of 32 (spaced (line_words a)) ≡ line_words a
line_parts a is = all_words a.name (decimal a.number ∷ decimal a.entries ∷ key_of a.reply ∷ rest_of a.reply)
    (not_space a.name (all_items (λ b. b ≢ 32) a.name is.name), (number_space a.number is.number, (number_space a.entries is.entries, (key_space a.reply, rest_space a.reply is.reply))))

same_words : (a b : Answer) → IsTellable a → IsTellable b → line_of a ≡ line_of b → line_words a ≡ line_words b
same_words a b is_a is_b same =
    let lines : spaced (line_words a) ++ 10 ∷ [] ≡ spaced (line_words b) ++ 10 ∷ [] = sym (line_is a) ∙ same ∙ line_is b in
    let texts = append_cancel_right (spaced (line_words a)) (spaced (line_words b)) (10 ∷ []) lines in
    sym (line_parts a is_a) ∙ ap (parts_of 32) texts ∙ line_parts b is_b

-- the same lines tell the same
pub alike : (a b : Answer) → IsTellable a → IsTellable b → line_of a ≡ line_of b → AreAlike a b
alike a b is_a is_b same =
    let words = same_words a b is_a is_b same in
    let number : value (decimal a.number) ≡ value (decimal b.number) = ap (λ (ws : List (List ℕ)). value (get_or ws 1 [])) words in
    let entries : value (decimal a.entries) ≡ value (decimal b.entries) = ap (λ (ws : List (List ℕ)). value (get_or ws 2 [])) words in
    let replies : tell (key_of a.reply) (rest_of a.reply) ≡ tell (key_of b.reply) (rest_of b.reply) = ap (λ (ws : List (List ℕ)). tell (get_or ws 3 []) (drop 4 ws)) words in
    record {
      name = ap (λ (ws : List (List ℕ)). get_or ws 0 []) words;
      number = sym (value_again a.number is_a.number) ∙ number ∙ value_again b.number is_b.number;
      entries = sym (value_again a.entries is_a.entries) ∙ entries ∙ value_again b.entries is_b.entries;
      reply = sym (told_again a.reply is_a.reply) ∙ replies ∙ told_again b.reply is_b.reply;
    }
