-- Which files open as a database, and why the others don't.
-- GVDB, file version 0 (gvdb-format.h). A file begins with a header of 24 bytes: the eight letters of its signature, its
-- version, options that nobody looks at, and where the root table starts and ends.
use Rattle.std.specs.Prelude.{ℕ, ◌≤◌, ◌≡◌, List, length, codes, slice_range}
use Rattle.dconf_model.specs.Bytes.{u32_at}
use Rattle.dconf_model.specs.Table.{Table, HasHead, HasItems}

-- the root table
abbrev pub root_of : List ℕ → Table
root_of file = record { file = file; start = u32_at file 16; end = u32_at file 20 }

-- what a file has to keep, in the order in which it is asked
abbrev pub HasHeader : List ℕ → Type 0
HasHeader file = 24 ≤ length file

abbrev pub IsSigned : List ℕ → Type 0
IsSigned file = slice_range file 0 8 ≡ codes "GVariant"

abbrev pub IsVersionZero : List ℕ → Type 0
IsVersionZero file = u32_at file 8 ≡ 0

abbrev pub HasRoot : List ℕ → Type 0
HasRoot file = HasHead (root_of file)

-- a database opens: it keeps them all
pub record IsDatabase (file : List ℕ) : Type 0 where
  pub header : HasHeader file
  pub signature : IsSigned file
  pub version : IsVersionZero file
  pub root : HasRoot file
  pub table : HasItems (root_of file)

pub data OpenFault : Type 0 where
  short : OpenFault
  bad_signature : OpenFault
  bad_version : OpenFault
  bad_root : OpenFault
  bad_table : OpenFault

-- the first that it doesn't keep
abbrev pub IsOpenFault : List ℕ → OpenFault → Type 0
IsOpenFault file short = ¬ HasHeader file
IsOpenFault file bad_signature = HasHeader file × ¬ IsSigned file
IsOpenFault file bad_version = HasHeader file × IsSigned file × ¬ IsVersionZero file
IsOpenFault file bad_root = HasHeader file × IsSigned file × IsVersionZero file × ¬ HasRoot file
IsOpenFault file bad_table = HasHeader file × IsSigned file × IsVersionZero file × HasRoot file × ¬ HasItems (root_of file)
