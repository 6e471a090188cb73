use Rattle.std.proofs.Common.{arith}
use Rattle.des_modes.proofs.CfbPlaces.{Xors-within}
use Rattle.des_modes.proofs.cfb.CfbMode.apply_in_segment.Goals as goal

pub returns-in-Encrypt-clause-goes : goal.returns-in-Encrypt-clause-goes
returns-in-Encrypt-clause-goes g c =
    rw c.in-Encrypt.is (λ iv. record {
      goes = λ d more is.
          let made = c.current-output.ensures iv d is in (
            c.advance.ensures.after _ iv d is made,
            Xors-within is (omega arith) c.args.self.now.some _ _ _ _ made c.requires c.xor_block_from.auto.bytes c.xor_block_from.ensures,
          );
    })

pub returns-in-Decrypt-clause-goes : goal.returns-in-Decrypt-clause-goes
returns-in-Decrypt-clause-goes g c =
    rw c.in-Decrypt.is (λ iv. record {
      goes = λ d more is.
          let made = c.current-output.ensures iv d is in (
            c.advance-in-Decrypt.ensures.after _ iv d is made,
            Xors-within is (omega arith) c.args.self.now.some _ more _ _ made c.requires c.xor_block_from-in-Decrypt.auto.bytes
                c.xor_block_from-in-Decrypt.ensures,
          );
    })
