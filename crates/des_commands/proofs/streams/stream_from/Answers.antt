use Rattle.des_commands.proofs.streams.stream_from.Goals as goal

pub returns-in-Ofb-clause-begun : goal.returns-in-Ofb-clause-begun
returns-in-Ofb-clause-begun c = ((rw c.unwrap.ensures at c.new.ensures.some).1 (λ block. block)).begun
