-- Which name is said to be the nearest to one that is missing. docs/MANUAL.md, "lint [FILE]..".
use Rattle.std.specs.Prelude.{ℕ, List, Bool, ◌+◌, ◌-◌, ◌*◌, ◌/◌, ◌&&◌, ◌==◌, if◌then◌else◌, length, min, nat_lt, nat_le}
use Rattle.std.specs.Str.{chars}
use Rattle.std.specs.Str.Lossy.{utf8_lossy}
use Rattle.strsim.specs.Edits.{osa_table}
use Rattle.dconf_roles.specs.declared.nearness.Nearing.{Nearing}

abbrev pub letters : List ℕ → List ℕ
letters name = chars (utf8_lossy name)

-- how many letters are put in, left out, replaced, or swapped with the next one, at least: the distance of optimal string alignment
abbrev pub letters_apart : List ℕ → List ℕ → ℕ
letters_apart one other = (osa_table (letters one) (letters other)).last_row (length (letters other))

-- so many may be otherwise in a name: one, and one more for each five; or half of them
abbrev pub most_apart : Bool → ℕ → ℕ
most_apart is_half len = if is_half then len / 2 else min 64 (1 + len / 5)

-- fewer than so many are near: than those of the nearest one so far, if there is one
abbrev pub bound : Nearing → ℕ → ℕ
bound n len = if n.found == 0 then most_apart n.is_half len + 1 else n.found - 1

-- neither of two lengths is more than that away from the other
abbrev pub is_within : ℕ → ℕ → ℕ → Bool
is_within most one other = nat_le one (other + most) && nat_le other (one + most)

abbrev pub is_comparable : Bool → ℕ → ℕ → Bool
is_comparable is_half len other_len = nat_le len 65536 && (nat_le other_len 65536 && is_within (most_apart is_half len) len other_len)

-- pairs of letters
abbrev pub cost : ℕ → ℕ → ℕ
cost len other_len = (len + 1) * (other_len + 1)

-- a run compares so many
abbrev pub has_left : ℕ → ℕ → Bool
has_left used cost = nat_le used 100000000 && nat_le cost (100000000 - used)

abbrev pub compares : Nearing → ℕ → ℕ → Bool
compares n len other_len = is_comparable n.is_half len other_len && has_left n.used (cost len other_len)

abbrev pub is_near : Nearing → List ℕ → List ℕ → Bool
is_near n name other = nat_lt (letters_apart name other) (bound n (length name))

abbrev pub nearing_with : Nearing → ℕ → ℕ → Bool → Nearing
nearing_with n cost apart is = record n { used = n.used + cost; found = if is then apart + 1 else n.found }

abbrev pub nearing_after : Nearing → List ℕ → List ℕ → Nearing
nearing_after n name other =
    if compares n (length name) (length other)
    then nearing_with n (cost (length name) (length other)) (letters_apart name other) (is_near n name other) else n

abbrev pub is_nearer : Nearing → List ℕ → List ℕ → Bool
is_nearer n name other = compares n (length name) (length other) && is_near n name other
