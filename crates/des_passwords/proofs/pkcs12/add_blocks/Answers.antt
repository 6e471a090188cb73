use Rattle.std.proofs.Common.{rules, ℕ, suc, ◌≡◌, ◌+◌, ◌-◌, ◌*◌, ◌∙◌, ◌++◌, List, length, append_assoc, ap, sym, subst, arith}
use Rattle.des_passwords.specs.Pkcs12.{copies, raised_by}
use Rattle.des_passwords.proofs.BlocksOfTexts.{raised_copies, raised_more}
use Rattle.des_passwords.proofs.pkcs12.add_blocks.Goals as goal

-- a block more
pub steps-preserved : goal.steps-preserved
steps-preserved g c =
    let text : List ℕ = g.T.Blocks.text c.args.text.now in
    let left : List ℕ = g.T.Blocks.left c.steps.text in
    let next : List ℕ = g.T.Blocks.left c.next_block-block.new.self in
    let block : List ℕ = c.next_block-block.result in
    let count = c.count-count.result in
    let rest = count - (c.steps.counter + 1) in
    let more : count - c.steps.counter ≡ suc rest = omega (arith, c.steps-test.true) in
    let size : length block ≡ 64 = search rules in
    record {
      text = c.next_block-block.ensures.text ∙ c.steps.invariant.text;
      added = λ m holds.
          let before = c.steps.invariant.added m holds in
          let done = before.0 in
          let raised = raised_by c.args.b block in
          let parts : copies text left (64 * suc rest) ≡ block ++ copies text next (64 * rest) =
          subst (λ (t : List ℕ). copies t left (64 * suc rest) ≡ block ++ copies t next (64 * rest))
          c.steps.invariant.text (c.next_block-block.ensures.block rest) in (
            done ++ raised,
            subst (g.H.HashFunction.holds c.add.new.self)
                (ap (λ (l : List ℕ). (m ++ done) ++ l) c.raised.ensures ∙ append_assoc m done raised)
                (c.add.ensures (m ++ done) before.1),
            append_assoc done raised (raised_copies c.args.b text next rest)
                ∙ ap (λ (l : List ℕ). done ++ l) (sym (ap (raised_copies c.args.b text left) more
                ∙ raised_more c.args.b text left next block rest size parts))
                ∙ before.2,
          );
    }
