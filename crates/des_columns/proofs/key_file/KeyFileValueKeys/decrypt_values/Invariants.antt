-- The keys of the blocks of the values before the index stand at the front.
use Rattle.std.proofs.Common.{◌≡◌, length, take, drop}
use Rattle.std.specs.List.{flat_map}
use Rattle.des_columns.specs.Forms.{blocks_of}
use Rattle.des_columns.specs.Columns.{pieces}
use Rattle.des_columns.proofs.KeysOfBlocks.{keys_of}
use Rattle.des_columns.proofs.ValuesByNumber.{key_for}
use Rattle.des_columns.proofs.key_file.KeyFileValueKeys.decrypt_values.Given as goal

abbrev pub invariant-values : goal.invariant-values
invariant-values g l = record {
  rest : pieces (drop l.k l.lengths) l.rest ≡ drop l.k (pieces l.lengths l.values);
  filled : l.filled ≡ length (flat_map (blocks_of l.form) (take l.k (pieces l.lengths l.values)));
  keys : take l.filled l.keys ≡ keys_of (key_for l.self.keys) (blocks_of l.form) (take l.k (pieces l.lengths l.values));
}
