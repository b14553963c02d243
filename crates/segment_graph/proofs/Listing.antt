-- Lists of half-edges: what a link begins, and values by number.
use Rattle.std.proofs.Common.{◌≡◌, ℕ, zero, suc, ◌+◌, ◌-◌, ◌<◌, ◌≤◌, Bool, true, false, cond, eqb, List, [], ◌∷◌, ◌++◌, length, get_or, inl, inr, refl, sym, ap, ◌∙◌, arith}
use Rattle.std.proofs.lemmas.Bool.{cases_eq, eq-eqb, ne_eqb}
use Rattle.std.proofs.lemmas.List.FromFn.{fill_by_all, length-map-range_with_len, get_or-map-range_with_len, map-range_with_len_more}
use Rattle.gh_base.specs.declared.edges.DirEdge.{DirEdge}
use Rattle.segment_graph.specs.Halves.{numbered, half, halves_below, link_below, list_from}

pub length-numbered : {X : Type 0} (f : ℕ → X) (n : ℕ) → length (numbered f n) ≡ n
length-numbered f n = length-map-range_with_len f 0 n

pub get_or-numbered : {X : Type 0} (f : ℕ → X) (n k : ℕ) (d : X) → k < n → get_or (numbered f n) k d ≡ f k
get_or-numbered f n k d l = get_or-map-range_with_len f 0 n k k d l (omega arith)

-- a list whose items are known by number
pub by_number : {X : Type 0} (f : ℕ → X) (xs : List X) (n : ℕ) (d : X) → length xs ≡ n → ((k : ℕ) → k < n → get_or xs k d ≡ f k) → numbered f n ≡ xs
by_number f xs n d len each = sym (fill_by_all f xs n d len each)

pub same_numbered : {X : Type 0} (f g : ℕ → X) (n : ℕ) → ((k : ℕ) → k < n → f k ≡ g k) → numbered f n ≡ numbered g n
same_numbered f g n same = by_number f (numbered g n) n (g 0) (length-numbered g n) (λ k l. get_or-numbered g n k (g 0) l ∙ sym (same k l))

-- a list by number: how long it is, what stands there, and one more behind
pub numbered_len : {X : Type 0} (f : ℕ → X) (n : ℕ) (xs : List X) → numbered f n ≡ xs → n ≡ length xs
numbered_len f n xs is = sym (length-numbered f n) ∙ ap length is

pub numbered_is : {X : Type 0} (f : ℕ → X) (n k : ℕ) (xs : List X) (d : X) → numbered f n ≡ xs → k < length xs → f k ≡ get_or xs k d
numbered_is f n k xs d is l =
    sym (get_or-numbered f n k d (omega (arith, numbered_len f n xs is))) ∙ ap (λ (ys : List _). get_or ys k d) is

pub numbered_push : {X : Type 0} (f g : ℕ → X) (n : ℕ) (xs : List X) (x : X) → numbered f n ≡ xs → ((k : ℕ) → k < n → g k ≡ f k) → g n ≡ x → numbered g (n + 1) ≡ xs ++ x ∷ []
numbered_push f g n xs x is old new =
    map-range_with_len_more g 0 n n (omega arith)
    ∙ (ap (λ (ys : List _). ys ++ g n ∷ []) (same_numbered g f n old ∙ is) ∙ ap (λ (y : _). xs ++ y ∷ []) new)

-- the list that a tower's link begins is the tower's
pub list_from-link_below : (leaves : ℕ → ℕ) (tower n : ℕ) → list_from leaves (link_below leaves tower n) ≡ halves_below leaves tower n
list_from-link_below leaves tower zero = refl
list_from-link_below leaves tower (suc h) = elim (cases_eq (leaves h) tower) [
  | inl e ↦
      ap (λ (b : Bool). list_from leaves (cond b (suc h) (link_below leaves tower h))) (eq-eqb (leaves h) tower e)
      ∙ ap (λ (t : ℕ). halves_below leaves t (suc h)) e
  | inr e ↦
      let other : eqb (leaves h) tower ≡ false = ne_eqb (leaves h) tower e in
      ap (λ (b : Bool). list_from leaves (cond b (suc h) (link_below leaves tower h))) other
      ∙ (list_from-link_below leaves tower h
      ∙ sym (ap (λ (b : Bool). cond b (half h ∷ halves_below leaves tower h) (halves_below leaves tower h)) other))
]

-- what a link begins is its half-edge, and what the link behind that begins
pub list_from-suc : (leaves : ℕ → ℕ) (h next : ℕ) → next ≡ link_below leaves (leaves h) h → list_from leaves (suc h) ≡ half h ∷ list_from leaves next
list_from-suc leaves h next e =
    let rest = halves_below leaves (leaves h) h in
    ap (λ (b : Bool). cond b (half h ∷ rest) rest) (eq-eqb (leaves h) (leaves h) refl)
    ∙ ap (λ (list : List DirEdge). half h ∷ list) (sym (ap (list_from leaves) e ∙ list_from-link_below leaves (leaves h) h))

-- a link leads lower
pub link_below-le : (leaves : ℕ → ℕ) (tower n : ℕ) → link_below leaves tower n ≤ n
link_below-le leaves tower zero = omega arith
link_below-le leaves tower (suc h) =
    let rest = link_below-le leaves tower h in
    elim (eqb (leaves h) tower) as (λ b. cond {A = ℕ} b (suc h) (link_below leaves tower h) ≤ suc h) [
      | true ↦ omega arith
      | false ↦ omega arith
    ]

-- links and lists depend on half-edges below alone
pub same_link : (a b : ℕ → ℕ) (tower n : ℕ) → ((h : ℕ) → h < n → a h ≡ b h) → link_below a tower n ≡ link_below b tower n
same_link a b tower zero same = refl
same_link a b tower (suc h) same =
    ap (λ (t : ℕ). cond {A = ℕ} (eqb t tower) (suc h) (link_below a tower h)) (same h (omega arith))
    ∙ ap (λ (m : ℕ). cond {A = ℕ} (eqb (b h) tower) (suc h) m) (same_link a b tower h (λ k l. same k (omega arith)))

pub same_halves : (a b : ℕ → ℕ) (tower n : ℕ) → ((h : ℕ) → h < n → a h ≡ b h) → halves_below a tower n ≡ halves_below b tower n
same_halves a b tower zero same = refl
same_halves a b tower (suc h) same =
    ap (λ (t : ℕ). cond (eqb t tower) (half h ∷ halves_below a tower h) (halves_below a tower h)) (same h (omega arith))
    ∙ ap (λ (list : List DirEdge). cond (eqb (b h) tower) (half h ∷ list) list) (same_halves a b tower h (λ k l. same k (omega arith)))

-- no link leads to a tower that no half-edge leaves
pub no_link : (leaves : ℕ → ℕ) (tower n : ℕ) → ((h : ℕ) → h < n → leaves h < tower) → link_below leaves tower n ≡ 0
no_link leaves tower zero below = refl
no_link leaves tower (suc h) below =
    let less : leaves h < tower = below h (omega arith) in
    ap (λ (b : Bool). cond {A = ℕ} b (suc h) (link_below leaves tower h)) (ne_eqb (leaves h) tower (λ e. absurd (omega arith)))
    ∙ no_link leaves tower h (λ k l. below k (omega arith))

-- what a link begins, and what is left behind its first
pub list_from_more : (leaves : ℕ → ℕ) (link next : ℕ) (list : List DirEdge) → list_from leaves link ≡ list → 0 < link
    → next ≡ link_below leaves (leaves (link - 1)) (link - 1) → list ≡ half (link - 1) ∷ list_from leaves next
list_from_more leaves zero next list is some e = absurd (omega arith)
list_from_more leaves (suc h) next list is some e =
    let at : suc h - 1 ≡ h = omega arith in
    sym is
    ∙ (list_from-suc leaves h next (e ∙ ap (λ (k : ℕ). link_below leaves (leaves k) k) at)
    ∙ ap (λ (k : ℕ). half k ∷ list_from leaves next) (sym at))

pub next_below : (leaves : ℕ → ℕ) (link next most : ℕ) → next ≡ link_below leaves (leaves (link - 1)) (link - 1) → link ≤ most → next ≤ most
next_below leaves link next most e l =
    let low : link_below leaves (leaves (link - 1)) (link - 1) ≤ link - 1 = link_below-le leaves (leaves (link - 1)) (link - 1) in
    omega arith
