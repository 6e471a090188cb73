use Rattle.std.proofs.Common.{ℕ, List, length}
use Rattle.std.specs.Prelude.{IsTrue}
use Rattle.des_key_blocks.specs.KeyBlockReading.{is_sealed_length, HasLayout}
use Rattle.des_key_blocks.specs.KeyBlocks.{HasParts}
use Rattle.des_key_blocks.specs.declared.key_block_header.Header.{Header}
use Rattle.des_key_blocks.proofs.key_blocks.optional_block.Goals as goal

abbrev layout-of : (header : Header) (blocks : List (List ℕ × List ℕ)) (front rest block : List ℕ)
    → HasParts header blocks front rest block → IsTrue (is_sealed_length header.version (length rest)) → HasLayout block
layout-of h b f r block p is = record { header = h; blocks = b; front = f; rest = r; parts = p; fact = is }

pub returns-in_err-found-clause-only : goal.returns-in_err-found-clause-only
returns-in_err-found-clause-only c = λ header blocks front rest parts sealed.
    absurd (c.in_err-found.ensures.found (layout-of header blocks front rest c.args.block.now parts sealed))

pub returns-in-Some-clause-only : goal.returns-in-Some-clause-only
returns-in-Some-clause-only c = λ header blocks front rest parts sealed.
    rw c.in-Some.is at (c.in_ok-found.ensures.found (layout-of header blocks front rest c.args.block.now parts sealed))

pub returns-in-None-clause-only : goal.returns-in-None-clause-only
returns-in-None-clause-only c = λ header blocks front rest parts sealed.
    rw c.in-None.is at (c.in_ok-found.ensures.found (layout-of header blocks front rest c.args.block.now parts sealed))
