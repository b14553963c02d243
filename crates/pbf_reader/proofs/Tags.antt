-- The tags of dense nodes, pair by pair and node by node.
use Rattle.std.proofs.lemmas.Bool.Decides.{nat_tests}
use Rattle.std.proofs.Common.{◌≡◌, ◌∙◌, ℕ, ◌-◌, ◌%◌, ◌^◌, ◌<◌, zero, suc, List, [], ◌∷◌, length, Bool, true, false, Option, Some, None, eqb, refl, arith}
use Rattle.pbf_wire.specs.Dense.{after_tags, tags_fit}

end_with : (key : ℕ) (rest : List ℕ) → eqb (key % 2 ^ 32) 0 ≡ true → Some rest ≡ after_tags (key ∷ rest)
end_with key [] test = rw test refl
end_with key (value ∷ more) test = rw test refl

-- a 0 ends them
pub tags_end : (left rest : List ℕ) (key : ℕ) (whole : Option (List ℕ)) → after_tags left ≡ whole → left ≡ key ∷ rest → key % 2 ^ 32 ≡ 0 → Some rest ≡ whole
tags_end left rest key whole same is zero_key =
    let test : eqb (key % 2 ^ 32) 0 ≡ true = grind (arith, nat_tests) in
    end_with key rest test ∙ (rw is at same)

-- a key without a value
pub tags_cut : (left rest : List ℕ) (key : ℕ) (whole : Option (List ℕ)) → after_tags left ≡ whole → left ≡ key ∷ rest → rest ≡ [] → (key % 2 ^ 32 ≡ 0 → ⊥) → None ≡ whole
tags_cut left rest key whole same is none other =
    let test : eqb (key % 2 ^ 32) 0 ≡ false = grind (arith, nat_tests) in
    rw (is, none, test) at same

-- a pair, and more
pub tags_more : (left rest more : List ℕ) (key value : ℕ) (whole : Option (List ℕ)) → after_tags left ≡ whole → left ≡ key ∷ rest → rest ≡ value ∷ more → (key % 2 ^ 32 ≡ 0 → ⊥) → after_tags more ≡ whole
tags_more left rest more key value whole same is pair other =
    let test : eqb (key % 2 ^ 32) 0 ≡ false = grind (arith, nat_tests) in
    rw (is, pair, test) at same

pub next_node : (count : ℕ) (left rest : List ℕ) (whole : Bool) → tags_fit count left ≡ whole → 0 < count → Some rest ≡ after_tags left → tags_fit (count - 1) rest ≡ whole
next_node zero left rest whole same some is = absurd (omega arith)
next_node (suc count) left rest whole same some is =
    let less : suc count - 1 ≡ count = omega arith in
    rw less (rw (← is) at same)

pub no_node : (count : ℕ) (left : List ℕ) (whole : Bool) → tags_fit count left ≡ whole → 0 < count → None ≡ after_tags left → false ≡ whole
no_node zero left whole same some is = absurd (omega arith)
no_node (suc count) left whole same some is = rw (← is) at same

pub end_nodes : (count : ℕ) (left : List ℕ) (whole : Bool) → tags_fit count left ≡ whole → count ≡ 0 → eqb (length left) 0 ≡ whole
end_nodes count left whole same none = rw none at same
