-- What a key makes of a block, by its length: DES with 8 bytes, triple DES in the EDE form with two
-- parts of 8 bytes, or with three.
use Rattle.std.specs.Prelude.{ℕ, ◌==◌, ◌||◌, Bool, if◌then◌else◌, List, length}
use Rattle.des.specs.Des.{encryption, decryption}
use Rattle.des.specs.TripleCiphers.{ede2_encryption, ede2_decryption, ede3_encryption, ede3_decryption}

-- a key of one part, of two or of three
abbrev pub is_key : List ℕ → Bool
is_key key = length key == 8 || length key == 16 || length key == 24

abbrev pub encryption_by : List ℕ → List ℕ → List ℕ
encryption_by key =
    if length key == 8 then encryption key
    else if length key == 16 then ede2_encryption key
    else ede3_encryption key

abbrev pub decryption_by : List ℕ → List ℕ → List ℕ
decryption_by key =
    if length key == 8 then decryption key
    else if length key == 16 then ede2_decryption key
    else ede3_decryption key
