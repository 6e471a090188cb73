use Rattle.des_commands.proofs.outputs.notices.tell.Goals as goal

pub returns-clause-part : goal.returns-clause-part
returns-clause-part g c = rw (c.words_of.ensures c.args.about.now) c.write_line.ensures.part

pub returns-clause-whole : goal.returns-clause-whole
returns-clause-whole g c = rw (c.words_of.ensures c.args.about.now) c.write_line.ensures.whole
