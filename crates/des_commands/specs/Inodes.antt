-- The modes and owners of files and folders. The numbers are those of Linux for S_IFMT, S_IFREG, S_IFIFO, S_ISVTX and the
-- rights of group and others.
use Rattle.std.specs.Prelude.{◌≡◌, ◌≢◌, ◌⊎◌, ℕ, bit_and}
use Rattle.des_commands.specs.declared.outputs.inodes.Inode.{Inode}

abbrev pub IsRegular : ℕ → Type 0
IsRegular mode = bit_and mode 0o170000 ≡ 0o100000

abbrev pub IsFifo : ℕ → Type 0
IsFifo mode = bit_and mode 0o170000 ≡ 0o010000

-- only owners remove files
abbrev pub IsSticky : ℕ → Type 0
IsSticky mode = bit_and mode 0o1000 ≢ 0

abbrev pub MayGroupWrite : ℕ → Type 0
MayGroupWrite mode = bit_and mode 0o020 ≢ 0

abbrev pub MayOthersWrite : ℕ → Type 0
MayOthersWrite mode = bit_and mode 0o002 ≢ 0

-- the files that `may_create_in_sticky` (fs/namei.c) refuses, if fs.protected_regular and fs.protected_fifos are 2: they
-- are of no user who is trusted there, the folder's owner or oneself
abbrev pub IsRefusedInSticky : (folder file : Inode) (user : ℕ) → Type 0
IsRefusedInSticky folder file user =
    IsSticky folder.mode
    × (MayOthersWrite folder.mode ⊎ MayGroupWrite folder.mode)
    × (IsRegular file.mode ⊎ IsFifo file.mode)
    × (file.owner ≢ folder.owner)
    × (file.owner ≢ user)

-- a file is another user's, or its group or others have rights to it
abbrev pub HasOtherUsers : Inode → (user : ℕ) → Type 0
HasOtherUsers file user = (file.owner ≢ user) ⊎ (bit_and file.mode 0o077 ≢ 0)
