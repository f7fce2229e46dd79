-- How large a file may be that is read, and whether it is mapped.
use Rattle.std.specs.Prelude.{ℕ, Bool, true, false, if◌then◌else◌, ◌==◌}
use Rattle.dconf_parts.specs.declared.sizes.Kind.{Kind}
use Rattle.dconf_parts.specs.declared.sizes.Kind.TheVariants.{Machine, Profile, Database, Users}

-- A word takes no more than a page; a profile is read as any text is; and all that the pointers of a database reach has numbers of 32 bits.
abbrev pub largest : Kind → ℕ
largest Machine = 4096
largest Profile = 16777216
largest Database = 4294967295
largest Users = 4294967295

-- What is mapped shows what is written over it. So only a site's database is, whose memory all programs share.
abbrev pub is_mapped : Kind → Bool
is_mapped Machine = false
is_mapped Profile = false
is_mapped Database = true
is_mapped Users = false

abbrev pub kind_of : ℕ → Kind
kind_of n = if n == 0 then Machine else if n == 1 then Profile else if n == 2 then Database else Users
