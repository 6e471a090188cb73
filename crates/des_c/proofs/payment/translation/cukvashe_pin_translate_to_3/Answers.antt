use Rattle.std.proofs.Common.{rules, ◌≡◌}
use Rattle.des_context.specs.declared.status.TheConstants.{OK}
use Rattle.des_c.proofs.payment.translation.cukvashe_pin_translate_to_3.Goals as goal

-- the block that was made is the one that was written
pub returns-clause-translated : goal.returns-clause-translated
returns-clause-translated c = λ done.
    let same : c.write_block.result ≡ OK = search (rules, done) in
    rw (c.write_block.ensures.block same, c.format_of-from.ensures) at c.translate-made.ensures.translated
