-- The fullest group is the largest part.
use Rattle.std.specs.Prelude.{◌==◌, slice_index}
use Rattle.std.proofs.Common.{◌≡◌, ◌≢◌, Option, Some, None, IfSome, IfNone, ℕ, ◌<◌, ◌≤◌, Bool, true, false, List, length, refl, sym, ap, ◌∙◌, inl, inr, arith}
use Rattle.std.proofs.lemmas.Bool.{cases_lt, eqb-true, eq-eqb}
use Rattle.gh_base.specs.declared.edges.Hop.{Hop}
use Rattle.gh_base.specs.Networks.{Network}
use Rattle.landmark_choice.specs.Parts.{IsPartSize, IsLargestPart}
use Rattle.landmark_choice.specs.Grouping.{Leads, AreGrouped, AreSizes}
use Rattle.landmark_choice.proofs.Counting.{count_same}
use Rattle.landmark_choice.proofs.Joining.{part_led, led_part}

same_tests : (a b : Bool) → (a ≡ true → b ≡ true) → (b ≡ true → a ≡ true) → a ≡ b
same_tests true b f g = sym (f refl)
same_tests false true f g = g refl
same_tests false false f g = refl

-- a leader has itself above it
leader_root : (above : List ℕ) (leader : ℕ → ℕ) → Leads above leader → (one : ℕ) → one < length above → slice_index above (leader one) ≡ leader one
leader_root above leader h one l =
    let top : leader one < length above = let b = h.below one l in omega arith in
    let down = h.down (leader one) top in
    let same : leader (slice_index above (leader one)) ≡ leader one = h.same (leader one) top ∙ h.own one l in
    let up : leader (slice_index above (leader one)) ≤ slice_index above (leader one) = h.below (slice_index above (leader one)) (omega arith) in
    omega arith

module _ (network : Network) (above sizes : List ℕ) (left : List Hop) (g : AreGrouped network above network.nodes left) (long : length sizes ≡ network.nodes) (counts : AreSizes g.leader network.nodes sizes) where
  -- the number of a part's nodes is that of its leader
  size_led : (node m : ℕ) → node < network.nodes → IsPartSize network node m → m ≡ slice_index sizes (g.leader node)
  size_led node m l p =
      let b = g.leads.below node (let x = g.long in omega arith) in
      let each : (one : ℕ) → one < network.nodes → p.test one ≡ (g.leader one == g.leader node) =
      λ one within. same_tests (p.test one) (g.leader one == g.leader node)
      (λ t. eq-eqb (g.leader one) (g.leader node) (sym (part_led network above left g node one ((p.decides one within).0 t))))
      (λ t. (p.decides one within).1 (led_part network above left g node one l within (sym (eqb-true (g.leader one) (g.leader node) t)))) in
      p.count ∙ count_same p.test (λ one. g.leader one == g.leader node) network.nodes each ∙ sym (counts (g.leader node) (omega arith))

  led_size : (node : ℕ) → node < network.nodes → IsPartSize network node (slice_index sizes (g.leader node))
  led_size node l =
      let b = g.leads.below node (let x = g.long in omega arith) in
      record {
        test = λ one. g.leader one == g.leader node;
        decides = λ one within. (
          (λ t. led_part network above left g node one l within (sym (eqb-true (g.leader one) (g.leader node) t))),
          (λ p. eq-eqb (g.leader one) (g.leader node) (sym (part_led network above left g node one p))),
        );
        count = counts (g.leader node) (omega arith);
      }

  pub fullest : (above' : List ℕ) (best : ℕ) → Leads above' g.leader → length above' ≡ length above → best < length above' → slice_index above' best ≡ best
      → ((one : ℕ) → one < length above' → slice_index above' one ≡ one → slice_index sizes one ≤ slice_index sizes best)
      → ((one : ℕ) → one < best → slice_index above' one ≡ one → slice_index sizes one < slice_index sizes best)
      → IsLargestPart network best
  fullest above' best leads same within root most first =
      let inside : best < network.nodes = let x = g.long in omega arith in
      let led : g.leader best ≡ best = leads.root best within root in
      record {
        within = inside;
        size = slice_index sizes (g.leader best);
        size_is = led_size best inside;
        others = λ other m l p.
            let has : other < length above' = let x = g.long in omega arith in
            let is : m ≡ slice_index sizes (g.leader other) = size_led other m l p in
            let below = leads.below other has in
            let top : slice_index above' (g.leader other) ≡ g.leader other = leader_root above' g.leader leads other has in
            let own : slice_index sizes (g.leader best) ≡ slice_index sizes best = ap (slice_index sizes) led in
            let no_more = most (g.leader other) (omega arith) top in
            elim (cases_lt (g.leader other) best) [
              | inl l' ↦ let less = first (g.leader other) l' top in inl (omega arith)
              | inr g' ↦ elim (cases_lt m (slice_index sizes (g.leader best))) [ inl less ↦ inl less | inr equal ↦ inr (omega arith, omega arith) ]
            ];
      }

-- where no number has itself above it, there is none
pub no_root : (above : List ℕ) (leader : ℕ → ℕ) → Leads above leader → ((one : ℕ) → one < length above → slice_index above one ≢ one) → length above ≡ 0
no_root above leader h none = elim (cases_lt 0 (length above)) [
  | inl some ↦ absurd (let b = h.below 0 some in none (leader 0) (omega arith) (leader_root above leader h 0 some))
  | inr e ↦ omega arith
]

-- four facts of what is there
pub some_of_four : {A : Type 0} (o : Option A) (P Q R S T : A → Type 0) → ((x : A) → P x → Q x → R x → S x → T x) → IfSome o P → IfSome o Q → IfSome o R → IfSome o S → IfSome o T
some_of_four None P Q R S T f p q r s = tt
some_of_four (Some x) P Q R S T f p q r s = f x p q r s

-- what follows where nothing is there
pub none_then : {A : Type 0} (o : Option A) (P Q : Type 0) → (P → Q) → IfNone o P → IfNone o Q
none_then None P Q f h = f h
none_then (Some x) P Q f h = tt
