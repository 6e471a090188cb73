use Rattle.des_context.specs.CipherTypes.{encryption_of}
use Rattle.des_context.specs.MacContexts.{key_of_cbc}
use Rattle.des_context.proofs.macs.init.Goals as goal

pub returns-clause-made : goal.returns-clause-made
returns-clause-made c done = record {
  made = c.write_words.ensures.made;
  padded_by = c.new.ensures.padding;
  progress = c.new.ensures.progress (encryption_of (key_of_cbc c.args.algorithm c.args.key.now));
}
