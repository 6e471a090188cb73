use Rattle.std.proofs.Common.{[], rules}
use Rattle.des_modes.specs.States.{HasBegun}
use Rattle.des_context.specs.CipherTypes.{encryption_of}
use Rattle.des_context.proofs.stream_modes.apply_mode.Goals as goal

pub unwrap-mode-requires : goal.unwrap-mode-requires
unwrap-mode-requires g c =
    let begun : HasBegun c.in-Some-new.begun = (c.in-Some-new.ensures.some.1 (λ block. block)).begun in search rules

pub returns-clause-text : goal.returns-clause-text
returns-clause-text g c done key context =
    c.apply.ensures.under c.args.mode key c.args.iv.now [] [] context (c.in-Some-new.ensures.some.1 (encryption_of key))
