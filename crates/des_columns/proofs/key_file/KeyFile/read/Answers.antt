-- A byte more.
use Rattle.std.proofs.Common.{◌≡◌, ℕ, ◌+◌, ◌-◌, true, false, None, List, length, take, drop, get_or, ap, ◌∙◌, arith, rules}
use Rattle.std.specs.Option.{option_map, option_or}
use Rattle.des_columns.specs.Mysql.{key_of}
use Rattle.des_columns.specs.KeyFile.{is_line, string_in}
use Rattle.des_columns.proofs.KeyFileLines.{line-begun, line-taken}
use Rattle.des_columns.proofs.key_file.KeyFile.read.Goals as goal
use Rattle.des_columns.proofs.key_file.KeyFile.read.Goals.{then-is_line, else-is_line}

pub bytes-preserved : goal.bytes-preserved
bytes-preserved c =
    let file : List ℕ = c.args.file.now in
    let keys = c.bytes.keys in
    let start : ℕ = c.bytes.start in
    let at : ℕ = c.bytes.at in
    let line : List ℕ = take (at + 1 - start) (drop start file) in
    elim c.if-is_line.branch [
      | then-is_line w ↦ record {
        start = omega (arith, w.start-is);
        count = omega (arith, ap length w.keys-is, w.take_key.auto.keys, c.bytes.invariant.count);
        keys = λ number few.
            let is : is_line line ≡ true = search rules in
            let empty : at + 1 - (at + 1) ≡ 0 = omega arith in
            rw (w.start-is, empty, w.keys-is) (line-taken file keys number start at c.bytes.invariant.start c.bytes-test.true
            w.take_key.new.keys is (w.take_key.ensures number few)
            ∙ c.bytes.invariant.keys number few);
      }
      | else-is_line w ↦ record {
        start = omega (arith, w.start-is, c.bytes.invariant.start);
        count = omega (arith, ap length w.keys-is, c.bytes.invariant.count);
        keys = λ number few.
            let is : is_line line ≡ false = search rules in
            rw (w.start-is, w.keys-is) (ap (λ l. option_or (option_map key_of (string_in number l)) (get_or keys number None))
            (line-begun file keys number start at c.bytes.invariant.start c.bytes-test.true is)
            ∙ c.bytes.invariant.keys number few);
      }
    ]
