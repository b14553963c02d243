-- The lengths of the fronts of a line, and its snaps.
use Rattle.std.proofs.Common.{◌≡◌, ℕ, zero, suc, ◌+◌, ◌≤◌, ◌<◌, List, [], ◌∷◌, length, take, refl, ap, add-one, arith, below_more, slice_get, Some, sym}
use Rattle.std.proofs.lemmas.Option.{get_or_from_slice_get}
use Rattle.gh_base.specs.Places.{IsOnEarth}
use Rattle.gh_base.specs.declared.map.Point.{Point}
use Rattle.geo_math.specs.declared.foot.Snap.{Snap}
use Rattle.geo_math.specs.Foot.{foot}
use Rattle.geo_math.specs.Lengths.{segment_length, line_length}
use Rattle.location_grid.specs.Snaps.{IsSnapAmong, foot_at, point_at}

pub point_is : (points : List Point) (k : ℕ) (point : Point) → slice_get points k ≡ Some point → point ≡ point_at points k
point_is points k point e = sym (get_or_from_slice_get points k point _ e)

front_suc : (points : List Point) (k : ℕ) → suc k < length points → line_length (take (suc (suc k)) points) ≡ line_length (take (suc k) points) + segment_length (point_at points k) (point_at points (suc k))
front_suc [] k h = absurd (omega arith)
front_suc (a ∷ []) k h = absurd (omega arith)
front_suc (a ∷ b ∷ points) zero h = omega arith
front_suc (a ∷ b ∷ points) (suc k) h = let e = front_suc (b ∷ points) k (omega arith) in omega arith

-- a front with one more segment is as much longer
pub front_more : (points : List Point) (k : ℕ) → k + 1 < length points → line_length (take (k + 1 + 1) points) ≡ line_length (take (k + 1) points) + segment_length (point_at points k) (point_at points (k + 1))
front_more points k h = let e = front_suc points k (omega arith) in simp add-one e

-- a front is no longer than the line
pub front_within : (points : List Point) (k : ℕ) → line_length (take k points) ≤ line_length points
front_within [] zero = omega arith
front_within [] (suc k) = omega arith
front_within (a ∷ points) zero = omega arith
front_within (a ∷ []) (suc zero) = omega arith
front_within (a ∷ []) (suc (suc k)) = omega arith
front_within (a ∷ b ∷ points) (suc zero) = omega arith
front_within (a ∷ b ∷ points) (suc (suc k)) = let e = front_within (b ∷ points) (suc k) in omega arith

front_zero : (points : List Point) → line_length (take (0 + 1) points) ≡ 0
front_zero [] = refl
front_zero (a ∷ points) = refl

-- the first segment alone
pub among_one : (p : Point) (points : List Point) (snap : Snap) → snap ≡ foot_at p points 0 → IsSnapAmong p points 1 snap
among_one p points snap e = record {
  segment = 0;
  there = omega arith;
  place = rw (front_zero points) (let f = ap (λ (s : Snap). s.place) e in omega arith);
  dist2 = ap (λ (s : Snap). s.dist2) e;
  least = λ k h. let z : k ≡ 0 = omega arith in rw z (let f = ap (λ (s : Snap). s.dist2) e in omega arith);
  first = λ k h. absurd (omega arith);
}

-- one more segment, which is nearer
pub among_takes : (p : Point) (points : List Point) (k : ℕ) (best snap : Snap) → IsSnapAmong p points k best
    → (foot_at p points k).dist2 < best.dist2 → snap.dist2 ≡ (foot_at p points k).dist2 → snap.place ≡ line_length (take (k + 1) points) + (foot_at p points k).place
    → IsSnapAmong p points (k + 1) snap
among_takes p points k best snap is near dist2 place = record {
  segment = k;
  there = omega arith;
  place = place;
  dist2 = dist2;
  least = below_more _ _ (λ j h. let l = is.least j h in omega arith) (omega arith);
  first = λ j h. let l = is.least j h in omega arith;
}

-- one more segment, which is not
pub among_keeps : (p : Point) (points : List Point) (k : ℕ) (best : Snap) → IsSnapAmong p points k best → best.dist2 ≤ (foot_at p points k).dist2 → IsSnapAmong p points (k + 1) best
among_keeps p points k best is far = record {
  segment = is.segment;
  there = let t = is.there in omega arith;
  place = is.place;
  dist2 = is.dist2;
  least = below_more _ _ is.least far;
  first = is.first;
}

-- what a walk along a line knows at its point k: how far it has come, and the snap on the segments behind it
pub record Walked (p : Point) (points : List Point) (k mm : ℕ) (at : Point) (snap : Snap) : Type 0 where
  pub before : mm ≡ line_length (take (k + 1) points)
  pub from : at ≡ point_at points k
  pub on_earth : IsOnEarth at
  pub best : IsSnapAmong p points k snap
  pub within : snap.place ≤ mm

pub walked_one : (p : Point) (points : List Point) (mm : ℕ) (from to : Point) (best : Snap) → 2 ≤ length points → from ≡ point_at points 0 → to ≡ point_at points 1 → IsOnEarth to
    → best ≡ foot p from to → best.place ≤ segment_length from to → mm ≡ segment_length from to → Walked p points 1 mm to best
walked_one p points mm from to best two f t earth is within long =
    let more = front_more points 0 (omega arith) in
    let none = front_zero points in
    let same : segment_length from to ≡ segment_length (point_at points 0) (point_at points (0 + 1)) = cc in
    let foots : best ≡ foot_at p points 0 = cc in
    record {
      before = omega arith;
      from = t;
      on_earth = earth;
      best = among_one p points best foots;
      within = omega arith;
    }

pub walked_takes : (p : Point) (points : List Point) (k before mm : ℕ) (from to : Point) (best foot_on : Snap) → Walked p points k before from best → k + 1 < length points → to ≡ point_at points (k + 1) → IsOnEarth to
    → foot_on ≡ foot p from to → foot_on.place ≤ segment_length from to → mm ≡ segment_length from to → foot_on.dist2 < best.dist2
    → Walked p points (k + 1) (before + mm) to (record { place = before + foot_on.place; dist2 = foot_on.dist2 })
walked_takes p points k before mm from to best foot_on w there t earth is within long near =
    let more = front_more points k there in
    let b = w.before in
    let f = w.from in
    let same : segment_length from to ≡ segment_length (point_at points k) (point_at points (k + 1)) = cc in
    let foots : foot_on ≡ foot_at p points k = cc in
    let place : foot_on.place ≡ (foot_at p points k).place = ap (λ (s : Snap). s.place) foots in
    let dist2 : foot_on.dist2 ≡ (foot_at p points k).dist2 = ap (λ (s : Snap). s.dist2) foots in
    record {
      before = omega arith;
      from = t;
      on_earth = earth;
      best = among_takes p points k best (record { place = before + foot_on.place; dist2 = foot_on.dist2 }) w.best (omega arith) dist2 (omega arith);
      within = omega arith;
    }

pub walked_keeps : (p : Point) (points : List Point) (k before mm : ℕ) (from to : Point) (best foot_on : Snap) → Walked p points k before from best → k + 1 < length points → to ≡ point_at points (k + 1) → IsOnEarth to
    → foot_on ≡ foot p from to → mm ≡ segment_length from to → best.dist2 ≤ foot_on.dist2
    → Walked p points (k + 1) (before + mm) to best
walked_keeps p points k before mm from to best foot_on w there t earth is long far =
    let more = front_more points k there in
    let b = w.before in
    let f = w.from in
    let i = w.within in
    let same : segment_length from to ≡ segment_length (point_at points k) (point_at points (k + 1)) = cc in
    let foots : foot_on ≡ foot_at p points k = cc in
    let dist2 : foot_on.dist2 ≡ (foot_at p points k).dist2 = ap (λ (s : Snap). s.dist2) foots in
    record {
      before = omega arith;
      from = t;
      on_earth = earth;
      best = among_keeps p points k best w.best (omega arith);
      within = omega arith;
    }

-- at its last point it has come along the whole line
pub walked_bounds : (points : List Point) (k before mm : ℕ) (from to : Point) → before ≡ line_length (take (k + 1) points) → from ≡ point_at points k → k + 1 < length points → to ≡ point_at points (k + 1)
    → mm ≡ segment_length from to → before + mm ≤ line_length points
walked_bounds points k before mm from to b f there t long =
    let more = front_more points k there in
    let all = front_within points (k + 1 + 1) in
    let same : segment_length from to ≡ segment_length (point_at points k) (point_at points (k + 1)) = cc in
    omega arith
