-- The status of values that are read where some value is refused.
use Rattle.std.proofs.Common.{◌≡◌, ℕ, ℤ, List, refl}
use Rattle.std.specs.List.{All}
use Rattle.des_context.specs.ColumnStatuses.{Fit, IsReadStatus}
use Rattle.des_context.specs.declared.status.TheConstants.{OK, ERR_VALUES}

pub some-refused : {lengths values texts text_lengths : List ℕ} {old new : List ℤ} → Fit lengths values texts text_lengths old
    → ¬ (All (λ it. it ≡ OK) new) → IsReadStatus lengths values texts text_lengths old new ERR_VALUES
some-refused fit some = record {
  counts = (λ e. absurd (cc e), λ unfit. absurd (unfit fit));
  all = (λ e. absurd (cc e), λ all. absurd (some all.1));
  some = (λ _. (fit, some), λ _. refl);
}
