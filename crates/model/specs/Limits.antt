-- The limits of document 01's table of quantities and of the branches (N2), stated plainly. The tests of Calls refuse what is outside them.
use Rattle.std.specs.Prelude.{◌≡◌, List, ℕ, suc, ◌*◌, ◌<◌, ◌≤◌, length, get_or}
use Rattle.model.specs.Code.{Code, lowest, highest, data_count, checks_each, branch_at}

-- of a run of positions: "strictly ascending, each below k"
pub record Ascending (k : ℕ) (ps : List ℕ) : Type 0 where
  pub below : (i : ℕ) → i < length ps → get_or ps i 0 < k
  pub above : (i : ℕ) → suc i < length ps → get_or ps i 0 < get_or ps (suc i) 0

-- k from 1 to 4,096; b from 1 to 8, and b times k at most 4,096; the table is b runs of J positions, J from 1 to 32
pub record SizeLimits (c : Code) : Type 0 where
  pub k_low : 1 ≤ c.k
  pub k_high : c.k ≤ 4096
  pub b_low : 1 ≤ c.b
  pub b_high : c.b ≤ 8
  pub data-high : data_count c ≤ 4096
  pub runs : length c.positions ≡ c.b * checks_each c
  pub J-low : 1 ≤ checks_each c
  pub J-high : checks_each c ≤ 32

-- and each run ascends
pub record TableLimits (c : Code) : Type 0 where
  pub sizes : SizeLimits c
  pub ascending : (r : ℕ) → r < c.b → Ascending c.k (branch_at c r)

-- and q is one of the profile's: from 3 to 256, for bits 2, for wide symbols the number of their values
pub record Limits (c : Code) : Type 0 where
  pub q_low : lowest c.profile ≤ c.q
  pub q_high : c.q ≤ highest c.profile
  pub table : TableLimits c
