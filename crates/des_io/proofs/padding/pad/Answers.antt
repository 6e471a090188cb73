use Rattle.std.proofs.Common.{rules, ap, arith, length, replicate, sym, ◌≡◌, ◌-◌, ◌+◌, ◌%◌, ◌∙◌}
use Rattle.des_io.proofs.PaddedLists.{iso7816-put}
use Rattle.des_io.proofs.padding.pad.Goals as goal

pub returns-in-Iso7816-clause-padded : goal.returns-in-Iso7816-clause-padded
returns-in-Iso7816-clause-padded c =
    let bytes = c.args.bytes.now in
    let end = c.args.count + 8 - c.args.count % 8 in
    let length-zeros : length c.fill-in-Iso7816.new.self ≡ end - (c.args.count + 1) = search rules in
    let zeros = c.fill-in-Iso7816.ensures.after (λ y e. e) ∙ ap (λ n. replicate n 0) (sym c.fill-in-Iso7816.ensures.len
    ∙ length-zeros) in
    rw c.in-Iso7816.is (iso7816-put bytes c.fill-in-Iso7816.new.self c.args.count end c.requires.capacity (omega arith)
    zeros)
