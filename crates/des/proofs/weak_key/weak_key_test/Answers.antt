use Rattle.std.proofs.Common.{◌/◌, ◌<◌, length, arith, refl, below_more}
use Rattle.std.proofs.Math.Facts.{Fits-lt-pow}
use Rattle.std.proofs.lemmas.Bool.Decides.{not_from_Decides}
use Rattle.std.proofs.lemmas.List.Elements.{All-from_get_or}
use Rattle.des.specs.Blocks.{AreBytes}
use Rattle.des.proofs.KeyParts.{IsRefusedByList-listed, IsRefusedByList-agreeing, not_refused}
use Rattle.des.proofs.ListedKeys.{refused_by_class}
use Rattle.des.proofs.weak_key.weak_key_test.Goals as goal
use Rattle.des.proofs.weak_key.weak_key_test.Goals.{then-contains_but_parity-via-then-contains_but_parity, then-contains_but_parity-via-else-contains_but_parity+then-contains_but_parity-2}

pub returns-then-contains_but_parity-clause-refused_by_list :
    goal.returns-then-contains_but_parity-clause-refused_by_list
returns-then-contains_but_parity-clause-refused_by_list c =
    let key = c.args.key.now in
    let parts = c.as_chunks.result.0.now in
    let i = c.loop-i.i in
    let within : i < length key / 8 = omega (arith, c.as_chunks.ensures.front_len) in (
      λ _. elim c.then-contains_but_parity.branch [
        | then-contains_but_parity-via-then-contains_but_parity w ↦
            IsRefusedByList-listed key parts c.as_chunks.ensures.front c.as_chunks.ensures.front_len i within
            (c.contains_but_parity.ensures.0 w.if-contains_but_parity.true)
        | then-contains_but_parity-via-else-contains_but_parity+then-contains_but_parity-2 w ↦
            IsRefusedByList-agreeing key parts c.as_chunks.ensures.front c.as_chunks.ensures.front_len i within
            (w.contains_but_parity-else-contains_but_parity.ensures.0 w.if-contains_but_parity-2.true)
      ],
      λ _. refl,
    )

pub returns-then-contains_but_parity-clause-refused : goal.returns-then-contains_but_parity-clause-refused
returns-then-contains_but_parity-clause-refused c =
    let key = c.args.key.now in
    let bytes : AreBytes key =
    All-from_get_or (λ byte. byte < 256) key 0 (λ i within. Fits-lt-pow (c.type_inv.key i)) in
    refused_by_class key _ bytes (returns-then-contains_but_parity-clause-refused_by_list c)

pub loop-i-preserved : goal.loop-i-preserved
loop-i-preserved c =
    below_more _ _ c.loop-i.invariant (
      not_from_Decides c.contains_but_parity.result c.contains_but_parity.ensures c.if-contains_but_parity.false,
      not_from_Decides c.contains_but_parity-else-contains_but_parity.result
          c.contains_but_parity-else-contains_but_parity.ensures
          c.if-contains_but_parity-2.false,
    )

pub returns-clause-refused_by_list : goal.returns-clause-refused_by_list
returns-clause-refused_by_list c =
    let parts = c.as_chunks.result.0.now in (
      λ is_err. cc is_err,
      λ refused.
          absurd
          (not_refused c.args.key.now parts c.as_chunks.ensures.front c.as_chunks.ensures.front_len
          (λ k within. c.loop-i.invariant k (omega (arith, c.as_chunks.ensures.front_len))) refused),
    )

pub returns-clause-refused : goal.returns-clause-refused
returns-clause-refused c =
    let key = c.args.key.now in
    let bytes : AreBytes key =
    All-from_get_or (λ byte. byte < 256) key 0 (λ i within. Fits-lt-pow (c.type_inv.key i)) in
    refused_by_class key _ bytes (returns-clause-refused_by_list c)
