-- The faults of a command line that are found before any memory is asked for, and their names.
use Rattle.std.specs.Prelude.{◌≡◌, ℕ, ◌*◌, ◌%◌, ◌==◌, ◌||◌, not, if◌then◌else◌, List, ◌++◌, length, codes, Option, Some, None, Result, Err, IsOk, IfErr}
use Rattle.std.specs.List.{list_all}
use Rattle.std.specs.Option.{option_map_or, option_or}
use Rattle.hex.specs.Hex.{is_hex_digit}
use Rattle.des_tool.specs.Request.{Request, of_blocks, of_cbc, of_weak, request_of, key_size_of, block_cipher_of}
use Rattle.des_tool.specs.declared.command.fault.Fault.{Fault}
use Rattle.des_tool.specs.declared.command.fault.Fault.TheVariants.{Usage, KeyLength, KeyText, BlockLength, BlockText, Memory}

-- the first fault of the key argument, which has to have two digits for each byte of a key of this
-- size
abbrev pub key_fault : ℕ → List ℕ → Option Fault
key_fault size key =
    if not (length key == 2 * size) then Some KeyLength
    else if not (list_all is_hex_digit key) then Some KeyText
    else None

-- the first fault of a key to be tested, which has to have two digits for each of 8, 16 or 24 bytes
abbrev pub tested_key_fault : List ℕ → Option Fault
tested_key_fault key =
    if not (length key == 16 || length key == 32 || length key == 48) then Some KeyLength
    else if not (list_all is_hex_digit key) then Some KeyText
    else None

-- the first fault of the vector argument, which has to have sixteen digits
abbrev pub vector_fault : List ℕ → Option Fault
vector_fault vector =
    if not (length vector == 16) then Some BlockLength
    else if not (list_all is_hex_digit vector) then Some BlockText
    else None

-- the first fault of the blocks argument, which has to have sixteen digits for each block
abbrev pub blocks_fault : List ℕ → Option Fault
blocks_fault blocks =
    if not (length blocks % 16 == 0) then Some BlockLength
    else if not (list_all is_hex_digit blocks) then Some BlockText
    else None

-- the first fault of a request
abbrev pub fault_of_request : Request → Option Fault
fault_of_request (of_blocks cipher direction key digits) =
    option_or (key_fault (key_size_of cipher) key) (blocks_fault digits)
fault_of_request (of_cbc cipher direction key vector digits) =
    option_or (key_fault (key_size_of (block_cipher_of cipher)) key)
    (option_or (vector_fault vector) (blocks_fault digits))
fault_of_request (of_weak key) = tested_key_fault key

-- the first fault of the arguments, but for memory
abbrev pub fault_of : List (List ℕ) → Option Fault
fault_of arguments = option_map_or fault_of_request (request_of arguments) (Some Usage)

-- a call gives this fault, if there is one, and else fails for want of memory alone
abbrev pub FailsBy : {A : Type 0} → Option Fault → Result A Fault → Type 0
FailsBy (Some fault) result = result ≡ Err fault
FailsBy None result = IfErr result (λ fault. fault ≡ Memory)

-- a call that takes no memory gives this fault, if there is one, and else does not fail
abbrev pub FailsOnlyBy : {A : Type 0} → Option Fault → Result A Fault → Type 0
FailsOnlyBy (Some fault) result = result ≡ Err fault
FailsOnlyBy None result = IsOk result

-- the name that `Display` writes
abbrev pub name_of : Fault → List ℕ
name_of Usage = codes "Usage"
name_of KeyLength = codes "KeyLength"
name_of KeyText = codes "KeyText"
name_of BlockLength = codes "BlockLength"
name_of BlockText = codes "BlockText"
name_of Memory = codes "Memory"

-- the line that tells it
abbrev pub line_of : Fault → List ℕ
line_of fault = name_of fault ++ codes "\n"
