use Rattle.std.proofs.Common.{rules, ◌≡◌, ℕ, ◌+◌, List, ◌++◌, length, codes, Option, Some, None, Result, Ok, Err, IsOk, inl, inr, refl, ◌∙◌}
use Rattle.std.proofs.lemmas.Result.{err_from_is_err_and, IfOk-weaker, IfErr-weaker}
use Rattle.des_passwords.specs.Derivations.{derived}
use Rattle.des_lines.specs.declared.fault.FaultKind.{FaultKind}
use Rattle.des_commands.specs.declared.outputs.notices.Notice.{Notice}
use Rattle.des_commands.specs.declared.streams.passwords.PasswordJob.{PasswordJob}
use Rattle.des_requests.specs.declared.streams.Job.{Job}
use Rattle.des_commands.specs.Notices.{IsRuledBy}
use Rattle.des_commands.specs.PasswordStreams.{salt_bytes, IsStreamOf, TellsOfKey}
use Rattle.des_requests.specs.StreamRequests.{key_size_of, IsJobOf}
use Rattle.des_commands.proofs.streams.passwords.run_by_key.Goals as goal

stream-of : (job : PasswordJob) (salt : Option (List ℕ)) (stream : Job) (size : ℕ)
    (key vector bytes heading : List ℕ)
    → size ≡ key_size_of job.request.now.cipher → bytes ≡ salt_bytes salt → length key ≡ size
    → key ++ vector ≡ derived job.by.derivation job.password.now bytes (size + 8)
    → heading ≡ codes "Salted__" ++ job.salt
    → IsJobOf job.request.now key vector heading job.skipped stream → IsStreamOf job salt stream
stream-of job salt stream size key vector bytes heading same told count given headed by_key = record {
  key = key;
  vector = vector;
  size = count ∙ same;
  given = rw (told, same) at given;
  by_key = rw headed at by_key;
}

-- a call that does not fail has taken the key
taken : (ruling : Result (Option Notice) FaultKind) (about : List ℕ) (done : Unit {0}) (old new : Option (List ℕ))
    → IsRuledBy ruling about (Ok done) old new → IsOk ruling
taken (Err kind) about done old new ruled = let bad = ruled.0 in cc
taken (Ok notice) about done old new ruled = refl

-- a call that fails has refused it
refused : (ruling : Result (Option Notice) FaultKind) (about : List ℕ) (kind : FaultKind) (old new : Option (List ℕ))
    → IsRuledBy ruling about (Err kind) old new → Err kind ≡ ruling
refused (Err other) about kind old new ruled = let same = ruled.0 in cc
refused (Ok None) about kind old new ruled = let bad = ruled.0 in cc
refused (Ok (Some notice)) about kind old new ruled = let bad = ruled.0 in cc

-- what the key's test told
tells : (job : PasswordJob) (ruling : Result (Option Notice) FaultKind) (result : Result (Unit {0}) FaultKind)
    (old new : Option (List ℕ)) → IsRuledBy ruling job.name.now result old new → TellsOfKey job old new
tells job (Err kind) result old new ruled = inl ruled.1
tells job (Ok None) result old new ruled = inl ruled.1
tells job (Ok (Some notice)) result old new ruled = inr (notice, ruled.1)

-- no salt was read
pub returns-in_err-salt-clause-fault : goal.returns-in_err-salt-clause-fault
returns-in_err-salt-clause-fault g c =
    let p = err_from_is_err_and c.from_residual.result c.from_residual.ensures.1 in
    let unread = c.in_err-salt.ensures.fault in
    rw (p.1, p.2) (inl (unread.0, unread.1, refl))

-- the key is refused
pub returns-in_err-accept_key-clause-fault : goal.returns-in_err-accept_key-clause-fault
returns-in_err-accept_key-clause-fault g c =
    let p = err_from_is_err_and c.from_residual-in_err-accept_key.result c.from_residual-in_err-accept_key.ensures.1 in
    let ruled = c.in_err-accept_key.ensures in
    let of_key = stream-of c.args.job.now c.in_ok-salt.salt c.job_of-stream.result g.row.N
    c.in-Ok.secret.key c.in-Ok.secret.vector c.bytes_of.result.now
    c.as_flattened-heading.result.now c.requires.size c.bytes_of.ensures (search rules) c.in-Ok.ensures.ok (search rules)
    c.job_of-stream.ensures in
    rw (p.1, p.2)
    (inr (
      c.in_ok-salt.salt,
      g.R.Read.remaining c.salt_of.new.reader,
      c.in_ok-salt.ensures.salt,
      inr (c.job_of-stream.result, of_key, inl ((ruled.0, ruled.1, refused _ _ _ _ _ ruled.2), (refl, refl))),
    ))

pub returns-in_err-accept_key-clause-told : goal.returns-in_err-accept_key-clause-told
returns-in_err-accept_key-clause-told g c = tells c.args.job.now _ _ _ _ c.in_err-accept_key.ensures.2

pub returns : goal.returns
returns g c =
    let ruled = c.in_ok-accept_key.ensures in
    let of_key = stream-of c.args.job.now c.in_ok-salt.salt c.job_of-stream.result g.row.N
    c.in-Ok.secret.key c.in-Ok.secret.vector c.bytes_of.result.now
    c.as_flattened-heading.result.now c.requires.size c.bytes_of.ensures (search rules) c.in-Ok.ensures.ok (search rules)
    c.job_of-stream.ensures in
    record {
      done = IfOk-weaker c.run.result _ _
          (λ done is. record {
            salt = c.in_ok-salt.salt;
            begun = g.R.Read.remaining c.salt_of.new.reader;
            stream = c.job_of-stream.result;
            reads = c.in_ok-salt.ensures.salt;
            by_password = of_key;
            ruling = _;
            ruled = (ruled.0, ruled.1, refl);
            taken = taken _ _ _ _ _ ruled.2;
            done = is;
          })
          c.run.ensures.done;
      fault = IfErr-weaker c.run.result _ _
          (λ kind stopped. inr (
            c.in_ok-salt.salt,
            g.R.Read.remaining c.salt_of.new.reader,
            c.in_ok-salt.ensures.salt,
            inr (c.job_of-stream.result, of_key, inr stopped),
          ))
          c.run.ensures.fault;
      told = tells c.args.job.now _ _ _ _ ruled.2;
    }
