-- The values of `DES_ENCRYPT`, as MySQL up to 5.7 and MariaDB have it (Item_func_des_encrypt, sql/item_strfunc.cc).
use Rattle.std.specs.Prelude.{ℕ, ◌-◌, ◌%◌, ◌==◌, ◌&&◌, Bool, nat_le, List, [], ◌∷◌, ◌++◌, length, replicate, get_or}
use Rattle.md5.specs.Md5.{md5}
use Rattle.des_passwords.specs.BytesToKey.{bytes_to_key}

-- the key of a key string, as EVP_BytesToKey makes it by MD5, with no salt and one iteration
abbrev pub key_of : List ℕ → List ℕ
key_of string = bytes_to_key md5 16 string [] 1 24

-- the 1 to 8 bytes that complete a block, by the number of bytes past the last whole one: `*`, and their number as the last
abbrev pub tail_after : ℕ → List ℕ
tail_after past = replicate (7 - past) 42 ++ (8 - past) ∷ []

abbrev pub padded : List ℕ → List ℕ
padded text = text ++ tail_after (length text % 8)

-- bytes that the server takes for encrypted: a byte with the highest bit, and one or more blocks
abbrev pub has_form : List ℕ → Bool
has_form value = nat_le 9 (length value) && (length value % 8 == 1) && nat_le 128 (get_or value 0 0)

-- the last byte
abbrev pub last_of : List ℕ → ℕ
last_of value = get_or value (length value - 1) 0

-- the number of the key of a value, which its first byte has above 128
abbrev pub number_of : List ℕ → ℕ
number_of value = get_or value 0 0 - 128
