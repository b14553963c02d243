-- The edges that can be used under a profile, and the point of one of them that is nearest.
use Rattle.std.specs.List.{AllZip}
use Rattle.std.proofs.Common.{◌≡◌, ◌≢◌, ℕ, ◌+◌, ◌<◌, ◌⊎◌, true, false, List, [], ◌∷◌, ◌++◌, length, take, get_or, Some, None, zero, suc, inl, inr, sym, ap, ◌∙◌, arith}
use Rattle.std.proofs.lemmas.Bool.{cases_lt}
use Rattle.std.proofs.lemmas.List.{take_more}
use Rattle.gh_base.specs.declared.map.Point.{Point}
use Rattle.base_graph.specs.Graphs.{Graph}
use Rattle.location_grid.specs.Bits.{has_bit}
use Rattle.location_grid.specs.Nearest.{Has, IsNearest}
use Rattle.location_grid.specs.declared.edge_bits.EdgeBits.{EdgeBits}
use Rattle.location_grid.specs.declared.grid.OnEdge.{OnEdge}
use Rattle.weighting.specs.declared.profile.Profile.{Profile}
use Rattle.weighting.specs.Roads.{is_usable}
use Rattle.traffic_core.specs.declared.spot.Spot.{Spot}
use Rattle.weighting.specs.Profiles.{profile_at}
use Rattle.traffic_core.specs.Lands.{Land, rule_alone}
use Rattle.traffic_core.specs.Spots.{spot_along}
use Rattle.traffic_core.specs.Places.{IsSnapOf, usable_in}
use Rattle.traffic_core.specs.Grounds.{AreUsable, AreUsableBelow}

-- below a number's successor, or at it
last_or_before : (number edge : ℕ) → edge < number + 1 → (edge ≡ number) ⊎ (edge < number)
last_or_before number edge h = elim (cases_lt edge number) [ inl l ↦ inr l | inr g ↦ inl (omega arith) ]

module _ (graph : Graph) (profile : Profile) (number : ℕ) where
  pub add_usable : (old new : EdgeBits) → AreUsableBelow graph profile number old → is_usable (rule_alone profile) graph number ≡ true
      → new.edges ≡ old.edges → has_bit new.words.items number ≡ true → ((other : ℕ) → other ≢ number → has_bit new.words.items other ≡ has_bit old.words.items other)
      → AreUsableBelow graph profile (number + 1) new
  add_usable old new before usable edges added others = record {
    edges = edges ∙ before.edges;
    has = λ edge h. elim (last_or_before number edge h) [
      | inl same ↦ rw same (added ∙ sym usable)
      | inr less ↦ others edge (omega arith) ∙ before.has edge less
    ];
    rest = λ edge h. others edge (omega arith) ∙ before.rest edge (omega arith);
  }

  pub skip_usable : (bits : EdgeBits) → AreUsableBelow graph profile number bits → is_usable (rule_alone profile) graph number ≡ false → AreUsableBelow graph profile (number + 1) bits
  skip_usable bits before usable = record {
    edges = before.edges;
    has = λ edge h. elim (last_or_before number edge h) [
      | inl same ↦ rw same (before.rest number (omega arith) ∙ sym usable)
      | inr less ↦ before.has edge less
    ];
    rest = λ edge h. before.rest edge (omega arith);
  }

zip_push : {A B : Type 0} (R : A → B → Type 0) (xs : List A) (ys : List B) (x : A) (y : B) → AllZip R xs ys → R x y → AllZip R (xs ++ x ∷ []) (ys ++ y ∷ [])
zip_push R [] [] x y z r = (r, tt)
zip_push R [] (b ∷ ys) x y z r = absurd z
zip_push R (a ∷ xs) [] x y z r = absurd z
zip_push R (a ∷ xs) (b ∷ ys) x y z r = (z.0, zip_push R xs ys x y z.1 r)

zip_at : {A B : Type 0} (R : A → B → Type 0) (xs : List A) (ys : List B) (i : ℕ) (d : A) (y : B) → AllZip R xs ys → i < length xs → y ≡ get_or ys i y → R (get_or xs i d) y
zip_at R [] [] i d y z l e = absurd (omega arith)
zip_at R [] (b ∷ ys) i d y z l e = absurd z
zip_at R (a ∷ xs) [] i d y z l e = absurd z
zip_at R (a ∷ xs) (b ∷ ys) zero d y z l e = rw e z.0
zip_at R (a ∷ xs) (b ∷ ys) (suc i) d y z l e = zip_at R xs ys i d y z.1 (omega arith) e

pub usable_more : (graph : Graph) (profiles : List Profile) (i : ℕ) (profile : Profile) (sets new : List EdgeBits) (bits : EdgeBits) → i < length profiles → profile ≡ get_or profiles i profile → new ≡ sets ++ bits ∷ []
    → AllZip (AreUsable graph) (take i profiles) sets → AreUsable graph profile bits → AllZip (AreUsable graph) (take (i + 1) profiles) new
usable_more graph profiles i profile sets new bits h e pushed before usable =
    let taken : take (i + 1) profiles ≡ take i profiles ++ profile ∷ [] = take_more profiles i profile h ∙ ap (λ (p : Profile). take i profiles ++ p ∷ []) (sym e) in
    rw (taken, pushed) (zip_push (AreUsable graph) (take i profiles) sets profile bits before usable)

pub usable_at : (graph : Graph) (profiles : List Profile) (sets : List EdgeBits) (n : ℕ) (bits : EdgeBits) → AllZip (AreUsable graph) profiles sets → n < length profiles → bits ≡ get_or sets n bits → AreUsable graph (profile_at profiles n) bits
usable_at graph profiles sets n bits z l e = zip_at (AreUsable graph) profiles sets n _ bits z l e

module _ (land : Land) (n : ℕ) (point : Point) (bits : EdgeBits) (usable : AreUsable land.graph (profile_at land.profiles n) bits) where
  pub snap_none : ((edge : ℕ) → edge < length land.graph.edges → has_bit bits.words.items edge ≡ false) → IsSnapOf land n point None
  snap_none none = λ edge h. sym (usable.has edge h) ∙ none edge h

  in_bits : (edge : ℕ) → Has land.graph (usable_in land n) edge → Has land.graph (has_bit bits.words.items) edge
  in_bits edge h = record { there = h.there; has = usable.has edge h.there ∙ h.has }

  out_of_bits : (edge : ℕ) → Has land.graph (has_bit bits.words.items) edge → Has land.graph (usable_in land n) edge
  out_of_bits edge h = record { there = h.there; has = sym (usable.has edge h.there) ∙ h.has }

  pub snap_at : (at : OnEdge) (spot : Spot) → IsNearest land.graph point (has_bit bits.words.items) at → spot ≡ spot_along land.graph at.edge at.offset_mm → IsSnapOf land n point (Some spot)
  snap_at at spot near is = (
    at,
    record {
      has = out_of_bits at.edge.0 near.has;
      snap = near.snap;
      is_snap = near.is_snap;
      offset = near.offset;
      least = λ edge h. near.least edge (in_bits edge h);
    },
    is,
  )
