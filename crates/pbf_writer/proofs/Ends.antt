-- Where a block of ways ends.
use Rattle.std.proofs.lemmas.Bool.{cases_lt, eq-eqb, ne_eqb, le-leb, lt-leb, lt-ltb, le-ltb}
use Rattle.std.proofs.Common.{◌≡◌, ℕ, ◌+◌, ◌<◌, ◌≤◌, ◌||◌, zero, suc, inl, inr, List, length, take, true, leb, eqb, refl, arith}
use Rattle.std.proofs.Math.Bool.{or-true}
use Rattle.gh_base.specs.declared.map.OsmWay.{OsmWay}
use Rattle.pbf_wire.specs.Writing.{ways_block, is_end, end_from, ways_count}

-- the first end from here on is the first end
pub record EndsFrom (ways : List OsmWay) (n : ℕ) : Type 0 where
  pub most : ℕ
  pub room : length ways < n + most
  pub same : end_from most ways n ≡ ways_count ways

pub first_end : (ways : List OsmWay) → EndsFrom ways 1
unfolding ways_count
first_end ways = record { most = length ways; room = omega arith; same = refl }

more_of : (most : ℕ) (ways : List OsmWay) (n : ℕ) → length ways < n + most → end_from most ways n ≡ ways_count ways → n < 8000 → n < length ways → length (ways_block (take (n + 1) ways)) ≤ 16777216 → EndsFrom ways (n + 1)
more_of zero ways n room same few inside fits = absurd (omega arith)
more_of (suc most) ways n room same few inside fits = record {
  most = most;
  room = omega arith;
  same = rw (ne_eqb n 8000 (λ e. absurd (omega arith)), lt-leb (length ways) n inside, le-ltb 16777216 (length (ways_block (take (n + 1) ways))) fits) at same;
}

pub later_end : (ways : List OsmWay) (n : ℕ) → EndsFrom ways n → n < 8000 → n < length ways → length (ways_block (take (n + 1) ways)) ≤ 16777216 → EndsFrom ways (n + 1)
later_end ways n ends few inside fits = more_of ends.most ways n ends.room ends.same few inside fits

end_of : (most : ℕ) (ways : List OsmWay) (n : ℕ) → end_from most ways n ≡ ways_count ways → is_end ways n ≡ true → n ≡ ways_count ways
end_of zero ways n same test = same
end_of (suc most) ways n same test = rw test at same

-- the block is as long as it may be
pub too_long : (ways : List OsmWay) (n : ℕ) → EndsFrom ways n → 16777216 < length (ways_block (take (n + 1) ways)) → n ≡ ways_count ways
too_long ways n ends long = end_of ends.most ways n ends.same (rw (lt-ltb 16777216 (length (ways_block (take (n + 1) ways))) long, or-true (eqb n 8000 || leb (length ways) n)) refl)

-- or has as many ways as it may have, or as there are
pub no_more : (ways : List OsmWay) (n : ℕ) → EndsFrom ways n → n ≤ 8000 → (n < 8000 → length ways ≤ n) → n ≡ ways_count ways
no_more ways n ends few last = end_of ends.most ways n ends.same (elim (cases_lt n 8000) [
  | inl less ↦ rw (le-leb (length ways) n (last less), or-true (eqb n 8000)) refl
  | inr all ↦ rw (eq-eqb n 8000 (omega arith)) refl
])
