use Rattle.des_c.proofs.payment.key_blocks.cukvashe_key_block_header.Goals as goal

pub returns-in-Ok-clause-found : goal.returns-in-Ok-clause-found
returns-in-Ok-clause-found c = λ done.
    let found = c.in-Ok.ensures.found in (
      record {
        header = c.in-Ok.read;
        blocks = found.0;
        front = found.1.0;
        rest = found.1.1.0;
        parts = found.1.1.1.0;
        fact = found.1.1.1.1;
      },
      c.text_of.ensures,
    )

pub returns-in-Err-clause-only : goal.returns-in-Err-clause-only
returns-in-Err-clause-only c = λ layout.
    absurd (c.in-Err.ensures.only layout.header layout.blocks layout.front layout.rest layout.parts layout.fact)
