use Rattle.std.proofs.Common.{◌≡◌, inl, inr, ℕ, ◌+◌, ◌*◌, ◌≤◌, List, ◌++◌, length, take, refl, ap, arith, rules}
use Rattle.std.proofs.lemmas.Grind.{common_steps}
use Rattle.des_context.proofs.OpenedBlocks.{length-plain, put-behind, Opens-refused}
use Rattle.des_context.proofs.salted.open_blocks.Goals as goal

pub returns-in-None : goal.returns-in-None
returns-in-None c key made =
    let never = c.in-None.ensures.none refl key made in
    Opens-refused (λ same. cc) (inr (inl (refl, c.if-encrypted-ne0.false, never)))
    (λ text opened. absurd (never text opened))

length-ended : (start block : List ℕ) (size count : ℕ) → length start ≡ size → count ≤ 8 → length block ≡ 8
    → length (start ++ take count block) ≡ size + count
length-ended start block size count long few eight = grind (arith, common_steps)

pub returns-then-plain-size : goal.returns-then-plain-size
returns-then-plain-size c key made =
    let block : List ℕ = c.in-Some.end.1 in
    let count : ℕ = c.in-Some.end.2 in
    let ends = c.in-Some.ensures.some key made in
    let start : List ℕ = ends.some.0 in
    let one = ends.opens start ends.some.1 in
    let size = length-ended start block (8 * length c.in-Some.end.0.now) count (length-plain ends.some.1)
    c.in-Some.ensures.size.1 (search rules) in
    Opens-refused (λ same. cc)
    (inr (inr (refl, (start ++ take count block, (one.0, omega (arith, size, c.if-plain-size.true))))))
    (λ text opened. omega (arith, c.if-plain-size.true, size, ap length (one.1 text opened)))

pub returns : goal.returns
returns c key made =
    let block : List ℕ = c.in-Some.end.1 in
    let count : ℕ = c.in-Some.end.2 in
    let part : List ℕ = take count block in
    let from : ℕ = 8 * length c.in-Some.end.0.now in
    let written = c.write_front.ensures key made in
    let start : List ℕ = written.0 in record {
      opened = λ done. (
        start ++ part,
        (c.in-Some.ensures.some key made).opens start written.1,
        length-ended start block from count (length-plain written.1) c.in-Some.ensures.size.1 (search rules),
        rw c.copy_from_slice.ensures.after
            (put-behind start part c.args.plain.now c.write_front.new.plain from (from + count) (length-plain written.1)
            (omega arith) written.2),
      );
      refused = λ failed. absurd (failed refl);
    }
