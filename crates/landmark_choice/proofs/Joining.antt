-- What is joined so far, hop by hop, and that in the end groups are parts.
use Rattle.std.specs.Prelude.{◌==◌, if◌then◌else◌}
use Rattle.std.proofs.Common.{◌≡◌, ℕ, ◌+◌, ◌<◌, ◌⊎◌, min, max, true, false, List, [], ◌∷◌, length, Contains, IsSome, refl, sym, subst, ap, ◌∙◌, inl, inr, zero, suc, arith}
use Rattle.std.proofs.lemmas.Bool.{cases_lt, cases_Bool, eqb-true, eq-eqb}
use Rattle.gh_base.specs.declared.edges.Hop.{Hop}
use Rattle.gh_base.specs.Networks.{Network}
use Rattle.landmark_choice.specs.Parts.{IsLinked, IsChain, AreInOnePart}
use Rattle.landmark_choice.specs.Grouping.{Leads, merged, AreGrouped}

-- chains from one node to another and on, and back
chain_on : (network : Network) (first second : List ℕ) (a b c : ℕ) → IsChain network a first b → IsChain network b second c → (all : List ℕ) × IsChain network a all c
chain_on network [] second a b c f s = (second, subst (λ (n : ℕ). IsChain network n second c) (sym f) s)
chain_on network (next ∷ first) second a b c f s =
    let rest = chain_on network first second next b c f.1 s in
    (next ∷ rest.0, (f.0, rest.1))

part_on : (network : Network) (a b c : ℕ) → AreInOnePart network a b → AreInOnePart network b c → AreInOnePart network a c
part_on network a b c f s = chain_on network f.0 s.0 a b c f.1 s.1

turned_link : (network : Network) (a b : ℕ) → IsLinked network a b ⊎ IsLinked network b a → IsLinked network b a ⊎ IsLinked network a b
turned_link network a b (inl l) = inr l
turned_link network a b (inr l) = inl l

chain_back : (network : Network) (between : List ℕ) (a b : ℕ) → IsChain network a between b → AreInOnePart network b a
chain_back network [] a b c = ([], sym c)
chain_back network (next ∷ between) a b c = part_on network b next a (chain_back network between next b c.1) (a ∷ [], (turned_link network a next c.0, refl))

pub part_back : (network : Network) (a b : ℕ) → AreInOnePart network a b → AreInOnePart network b a
part_back network a b c = chain_back network c.0 a b c.1

-- nothing is joined yet
pub begin : (network : Network) (above : List ℕ) → length above ≡ network.nodes → Leads above (λ one. one) → AreGrouped network above 0 (network.hops 0)
begin network above long leads = record {
  leader = λ one. one;
  leads = leads;
  long = long;
  one_part = λ one l. ([], refl);
  before = λ one hop l. absurd (omega arith);
  here = λ hop c s. inl c;
  later = λ hop c. c;
}

-- what a list contains, one element on
pub cons_cases : {A : Type 0} (y : A) (xs : List A) (x : A) → Contains (y ∷ xs) x → (y ≡ x) ⊎ Contains xs x
cons_cases y xs x (zero, l, e) = inl e
cons_cases y xs x (suc k, l, e) = inr (k, omega arith, e)

cons_later : {A : Type 0} (y : A) (xs : List A) (x : A) → Contains xs x → Contains (y ∷ xs) x
cons_later y xs x c = (suc c.0, omega (arith, c.1), c.2)

-- a barred hop joins nothing
pub skip : (network : Network) (above : List ℕ) (node : ℕ) (hop : Hop) (left : List Hop) → AreGrouped network above node (hop ∷ left) → (IsSome hop.weight → ⊥) → AreGrouped network above node left
skip network above node hop left g barred = record {
  leader = g.leader;
  leads = g.leads;
  long = g.long;
  one_part = g.one_part;
  before = g.before;
  here = λ other c s. elim (g.here other c s) [
    | inr same ↦ inr same
    | inl l ↦ elim (cons_cases hop left other l) [
      | inl e ↦ absurd (barred (subst (λ (h : Hop). IsSome h.weight) (sym e) s))
      | inr later ↦ inl later
    ]
  ];
  later = λ other c. g.later other (cons_later hop left other c);
}

-- what two groups that were made one lead to
merged_apart : (leader : ℕ → ℕ) (a b one : ℕ) → (leader one == max a b) ≡ false → merged leader a b one ≡ leader one
merged_apart leader a b one f = rw f refl

merged_one : (leader : ℕ → ℕ) (a b one : ℕ) → (leader one == max a b) ≡ true → merged leader a b one ≡ min a b
merged_one leader a b one t = rw t refl

merged_same : (leader : ℕ → ℕ) (a b one other : ℕ) → leader one ≡ leader other → merged leader a b one ≡ merged leader a b other
merged_same leader a b one other e = ap (λ (n : ℕ). if n == max a b then min a b else n) e

-- both of the two lead to the lesser
merged_first : (leader : ℕ → ℕ) (a b one : ℕ) → leader one ≡ a → merged leader a b one ≡ min a b
merged_first leader a b one e = elim (cases_Bool (leader one == max a b)) [
  | inl t ↦ merged_one leader a b one t
  | inr f ↦ elim (cases_lt a b) [
    | inl l ↦ let x = merged_apart leader a b one f in omega arith
    | inr g ↦ absurd (let m : leader one ≡ max a b = omega arith in let y : (max a b == max a b) ≡ false = rw m at f in let t : (max a b == max a b) ≡ true = eq-eqb (max a b) (max a b) refl in cc)
  ]
]

merged_second : (leader : ℕ → ℕ) (a b one : ℕ) → leader one ≡ b → merged leader a b one ≡ min a b
merged_second leader a b one e = elim (cases_Bool (leader one == max a b)) [
  | inl t ↦ merged_one leader a b one t
  | inr f ↦ elim (cases_lt b a) [
    | inl l ↦ let x = merged_apart leader a b one f in omega arith
    | inr g ↦ absurd (let m : leader one ≡ max a b = omega arith in let y : (max a b == max a b) ≡ false = rw m at f in let t : (max a b == max a b) ≡ true = eq-eqb (max a b) (max a b) refl in cc)
  ]
]

-- a hop with a weight joins its ends
pub joined : (network : Network) (above above' : List ℕ) (node : ℕ) (hop : Hop) (left : List Hop) → AreGrouped network above node (hop ∷ left) → node < network.nodes → IsSome hop.weight → hop.to.0 < network.nodes → length above' ≡ length above → ((leader : ℕ → ℕ) → Leads above leader → Leads above' (merged leader (leader node) (leader hop.to.0))) → AreGrouped network above' node left
joined network above above' node hop left g l some l' long merges =
    let leader = g.leader in
    let a = leader node in
    let b = leader hop.to.0 in
    let link : IsLinked network node hop.to.0 = (l, hop, g.later hop (0, omega arith, refl), some, refl) in
    let met : AreInOnePart network a b = part_on network a node b (part_back network node a (g.one_part node l)) (part_on network node hop.to.0 b (hop.to.0 ∷ [], (inl link, refl)) (g.one_part hop.to.0 l')) in
    let lesser : (m : ℕ) → m ≡ max a b → AreInOnePart network m (min a b) = λ m e. elim (cases_lt a b) [
      | inl less ↦ let x : b ≡ m = omega arith in let y : a ≡ min a b = omega arith in subst (λ (n : ℕ). AreInOnePart network n (min a b)) x (subst (λ (n : ℕ). AreInOnePart network b n) y (part_back network a b met))
      | inr more ↦ let x : a ≡ m = omega arith in let y : b ≡ min a b = omega arith in subst (λ (n : ℕ). AreInOnePart network n (min a b)) x (subst (λ (n : ℕ). AreInOnePart network a n) y met)
    ] in
    record {
      leader = merged leader a b;
      leads = merges leader g.leads;
      long = long ∙ g.long;
      one_part = λ one within. elim (cases_Bool (leader one == max a b)) [
        | inl t ↦ subst (λ (n : ℕ). AreInOnePart network one n) (sym (merged_one leader a b one t)) (part_on network one (leader one) (min a b) (g.one_part one within) (lesser (leader one) (eqb-true (leader one) (max a b) t)))
        | inr f ↦ subst (λ (n : ℕ). AreInOnePart network one n) (sym (merged_apart leader a b one f)) (g.one_part one within)
      ];
      before = λ one other below c s. merged_same leader a b one other.to.0 (g.before one other below c s);
      here = λ other c s. elim (g.here other c s) [
        | inr same ↦ inr (merged_same leader a b node other.to.0 same)
        | inl in_list ↦ elim (cons_cases hop left other in_list) [
          | inl e ↦ inr (merged_first leader a b node refl ∙ sym (merged_second leader a b other.to.0 (ap (λ (h : Hop). leader h.to.0) (sym e))))
          | inr rest ↦ inl rest
        ]
      ];
      later = λ other c. g.later other (cons_later hop left other c);
    }

-- on to the next node
pub next : (network : Network) (above : List ℕ) (node : ℕ) → AreGrouped network above node [] → AreGrouped network above (node + 1) (network.hops (node + 1))
next network above node g = record {
  leader = g.leader;
  leads = g.leads;
  long = g.long;
  one_part = g.one_part;
  before = λ one hop l c s. elim (cases_lt one node) [
    | inl less ↦ g.before one hop less c s
    | inr more ↦
        let same : node ≡ one = omega arith in
        elim (g.here hop (subst (λ (n : ℕ). Contains (network.hops n) hop) (sym same) c) s) [
          | inl none ↦ absurd (omega (arith, none.1))
          | inr e ↦ ap g.leader (sym same) ∙ e
        ]
  ];
  here = λ hop c s. inl c;
  later = λ hop c. c;
}

module _ (network : Network) (above : List ℕ) (left : List Hop) (g : AreGrouped network above network.nodes left) where
  -- what one chain joins has one leader
  chain_led : (between : List ℕ) (a b : ℕ) → IsChain network a between b → g.leader a ≡ g.leader b
  chain_led [] a b c = ap g.leader c
  chain_led (next ∷ between) a b c = link_led c.0 ∙ chain_led between next b c.1 where
    link_led : IsLinked network a next ⊎ IsLinked network next a → g.leader a ≡ g.leader next
    link_led (inl l) = g.before a l.1 l.0 l.2 l.3 ∙ ap g.leader l.4
    link_led (inr l) = sym (g.before next l.1 l.0 l.2 l.3 ∙ ap g.leader l.4)

  pub part_led : (a b : ℕ) → AreInOnePart network a b → g.leader a ≡ g.leader b
  part_led a b p = chain_led p.0 a b p.1

  pub led_part : (a b : ℕ) → a < network.nodes → b < network.nodes → g.leader a ≡ g.leader b → AreInOnePart network a b
  led_part a b l m e = part_on network a (g.leader a) b (g.one_part a l) (subst (λ (n : ℕ). AreInOnePart network n b) (sym e) (part_back network b (g.leader b) (g.one_part b m)))
