use Rattle.std.proofs.Common.{◌≡◌, ℕ, List, [], get_or, ◌∙◌, arith}
use Rattle.std.proofs.lemmas.List.{length-set}
use Rattle.des_payment.specs.Dukpt.{first_bytes}
use Rattle.des_fast.proofs.WrittenElements.{written_below}
use Rattle.des_payment.proofs.transaction_lists.first_blocks.Goals as goal

-- a lane more
pub lanes-preserved : goal.lanes-preserved
lanes-preserved c =
    let k : ℕ = c.lanes.k in
    let Holds : ℕ → List ℕ → Type 0 = λ m x. x ≡ first_bytes (get_or c.args.serials.now m []) in
    let here : Holds k c.first_bytes.result = c.first_bytes.ensures in record {
      count = length-set c.lanes.first k _ ∙ c.lanes.invariant.count;
      written = written_below Holds c.lanes.first k c.first_bytes.result [] (omega arith) c.lanes.invariant.written here;
    }
