use Rattle.std.proofs.Common.{◌∙◌, rules}
use Rattle.des_context.specs.MacContexts.{key_of_cbc}
use Rattle.des_context.proofs.macs.update.Goals as goal

pub extend_by-requires-clause-made : goal.extend_by-requires-clause-made
extend_by-requires-clause-made c =
    let mac = c.requires.sound (rw c.cbc_words-cbc.ensures at (c.opened.ensures.marked.0 (search rules))) in
    (key_of_cbc c.args.algorithm mac.1.0, rw c.cbc_words-cbc.ensures mac.1.1.1.made.cbc)

pub extend_by-requires-clause-cipher_type : goal.extend_by-requires-clause-cipher_type
extend_by-requires-clause-cipher_type c =
    let made = extend_by-requires-clause-made c in c.in-Some.ensures.cipher_type made.0 made.1

pub returns-clause-added : goal.returns-clause-added
returns-clause-added c done padding key m is = record {
  made = is.made;
  padded_by = c.extend_by.ensures.padding ∙ is.padded_by;
  progress = (rw c.cbc_words-cbc.ensures at c.extend_by.ensures.progress) (key_of_cbc c.args.algorithm key) m
      is.made.cbc is.progress;
}
