-- A crossbar in a slice longer than its cells: zeros past the cells change neither ground 12 nor what conducts, so no light.
use Prim.Native.Nat.{ℕ, ◌+◌, ◌*◌, ◌-◌, ◌≤◌}
use mathlib.Core.Path.{◌≡◌, fun_ext}
use mathlib.Core.List.{List}
use lib.ListN.{length}
use Rattle.common.specs.Lists.{padded}
use Rattle.common.proofs.Lists.{get_or-padded_any}
use Rattle.cells.specs.declared.Crossbar.{Crossbar}
use Rattle.cells.specs.Conducts.{joins}
use Rattle.cells.specs.Record.{size, sound}
use Rattle.conduction.specs.Light.{light, lit_by, joined}
use Rattle.cells.proofs.Slices.{sound-zeros}

module _ (x : Crossbar) (cells : List ℕ) (n : ℕ) where
  pub joined_same : (setting : List ℕ) → joined x (padded n cells) setting ≡ joined x cells setting
  unfolding joined joins
  joined_same setting = fun_ext (λ r. fun_ext (λ c. rw (get_or-padded_any n cells (r * x.columns + c))))

  pub sound-same : size x ≤ length cells → sound x (padded n cells) ≡ sound x cells
  unfolding padded
  sound-same enough = sound-zeros x cells (n - length cells) enough

  pub light-same : (setting : List ℕ) (room : ℕ) → size x ≤ length cells → light x (padded n cells) setting room ≡ light x cells setting room
  unfolding light lit_by
  light-same setting room enough = rw (sound-same enough, joined_same setting)
