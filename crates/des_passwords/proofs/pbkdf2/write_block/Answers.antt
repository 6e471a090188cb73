use Rattle.std.proofs.Common.{◌∙◌, sym, ap, subst, ℕ, ◌-◌, List, [], ◌++◌, bit_xor, arith}
use Rattle.std.specs.Int.{w32, to_be_bytes}
use Rattle.std.specs.Simd.Lanes.{zip2}
use Rattle.des_passwords.specs.Hmac.{hmac, IsHmacOf}
use Rattle.des_passwords.specs.Pbkdf2.{xor_of}
use Rattle.des_passwords.proofs.IteratedTags.{u-first, u-next, xor_of-first, xor_of-next}
use Rattle.des_passwords.proofs.pbkdf2.write_block.Goals as goal

-- the first U is the tag of the salt and the number of the block
pub steps-init : goal.steps-init
steps-init g c =
    let holds = g.H.HashFunction.holds in
    let digest = g.H.HashFunction.digest in
    let first = c.args.salt.now ++ to_be_bytes w32 c.args.index in
    let tag = λ (key : List ℕ) (is : IsHmacOf holds digest c.args.prf.now key []).
    c.write_tag.ensures key (c.args.salt.now ++ c.to_be_bytes.result) (c.update-2.ensures key c.args.salt.now (c.update.ensures key []
    (subst (λ p. IsHmacOf holds digest p key []) (sym c.copy-mac.ensures) is)))
    ∙ ap (λ (l : List ℕ). hmac digest key (c.args.salt.now ++ l)) c.to_be_bytes.ensures
    ∙ sym (u-first (hmac digest key) first) in
    record {
      begun = omega arith;
      within = omega arith;
      last_length = omega arith;
      answer_length = omega arith;
      last = tag;
      answer = λ key is. c.copy_from_slice.ensures.after ∙ tag key is ∙ sym (xor_of-first (hmac digest key) first);
    }

-- one U more, and its xor
pub steps-preserved : goal.steps-preserved
steps-preserved g c =
    let holds = g.H.HashFunction.holds in
    let digest = g.H.HashFunction.digest in
    let first = c.args.salt.now ++ to_be_bytes w32 c.args.index in
    let tag = λ (key : List ℕ) (is : IsHmacOf holds digest c.args.prf.now key []).
    c.step.ensures key is ∙ ap (hmac digest key) (c.steps.invariant.last key is)
    ∙ sym (u-next (hmac digest key) first c.steps.counter c.steps.invariant.begun) in
    record {
      begun = omega arith;
      within = omega (arith, c.steps-test.true);
      last_length = omega arith;
      answer_length = omega arith;
      last = tag;
      answer = λ key is.
          c.xor.ensures
          ∙ ap (λ l. zip2 bit_xor l c.step.new.bytes) (c.steps.invariant.answer key is)
          ∙ ap (zip2 bit_xor (xor_of (hmac digest key) first (c.steps.counter - 1))) (tag key is)
          ∙ sym (xor_of-next (hmac digest key) first c.steps.counter c.steps.invariant.begun);
    }
