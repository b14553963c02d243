-- How the fault of an item, or of a hop, is one of its list.
use Rattle.std.proofs.Common.{◌≡◌, ℕ, ◌*◌, ◌<◌, ◌^◌, List, [], ◌∷◌, ◌++◌, length, refl, sym, ap, ◌∙◌, inl, inr, append_assoc, arith}
use Rattle.std.proofs.lemmas.List.{append-nil}
use Rattle.gh_base.specs.Networks.{Network}
use Rattle.prep_store.specs.declared.fault.PrepFault.{PrepFault}
use Rattle.prep_store.specs.declared.fault.PrepFault.TheVariants as faults
use Rattle.prep_store.specs.declared.item.Item.{Item}
use Rattle.prep_store.specs.declared.item.Which.{Which}
use Rattle.prep_store.specs.Evidence.{MayFollow, MayAllFollow}
use Rattle.prep_store.specs.Stores.{item_text, items_text}
use Rattle.prep_store.specs.FirstFaults.{IsCut, FailsInItems}
use Rattle.prep_store.specs.Readings.{Place, Takes, Fails}
use Rattle.prep_store.proofs.Telling.{taken_then, fails_behind, fails_at}

pub items_push : (xs : List Item) (x : Item) → items_text (xs ++ x ∷ []) ≡ items_text xs ++ item_text x
items_push [] x = append-nil (item_text x)
items_push (y ∷ xs) x = ap (λ (bs : List ℕ). item_text y ++ bs) (items_push xs x) ∙ sym (append_assoc (item_text y) (items_text xs) (item_text x))

pub length-items : (xs : List Item) → length (items_text xs) ≡ 6 * length xs
length-items [] = refl
length-items (x ∷ xs) = let rest = length-items xs in omega (arith, rest)

module _ (network : Network) (grain landmark : ℕ) (which : Which) (count : ℕ) (right : List Item) (fewer : length right < count) (order : MayAllFollow network grain landmark [] right) where
  pub item_cut : {a b c : Place} {fault : PrepFault} → Takes a b (items_text right) → Fails (IsCut 6) b c fault → Fails (FailsInItems network grain landmark which count) a c fault
  item_cut taken cut = fails_behind taken cut (λ total rest after e f. record { right = right; after = after; bytes = e; fewer = fewer; order = order; fails = inl f })

  pub item_other : {a b c : Place} (place : ℕ) (item : Item) → length right ≡ place → Takes a b (items_text right) → Takes b c (item_text item) → item.node.0 < 2 ^ 32 → item.label < 2 ^ 16 → (MayFollow network grain landmark right item → ⊥) →
      Fails (FailsInItems network grain landmark which count) a c (faults.Order which.landmark which.back place)
  item_other place item long taken has node label other = fails_at (faults.Order which.landmark which.back place) (taken_then taken has) refl (λ total rest after e. record {
    right = right;
    after = item_text item ++ after;
    bytes = e ∙ append_assoc (items_text right) (item_text item) after;
    fewer = fewer;
    order = order;
    fails = inr (item, node, label, other, (after, refl, ap (λ (p : ℕ). faults.Order which.landmark which.back p) (sym long)));
  })
