-- The same entries by other numbers.
use Rattle.std.specs.Prelude.{ℕ, ◌<◌, ◌≡◌, option_map}
use Rattle.dconf_model.specs.Entries.{Entry, Entries}

-- the entry, with its directory's other number
abbrev pub renumbered : (ℕ → ℕ) → Entry → Entry
renumbered number x = record { name = x.name; key = x.key; parent = option_map number x.parent; kind = x.kind }

-- entry i of f is what entry (order i) of e was, and entry p of e is entry (number p) of f
pub record AreRenumbered (e f : Entries) (order number : ℕ → ℕ) : Type 0 where
  pub counted : f.count ≡ e.count
  pub ordered : (i : ℕ) → i < e.count → order i < e.count
  pub numbered : (p : ℕ) → p < e.count → number p < e.count
  pub back : (p : ℕ) → p < e.count → order (number p) ≡ p
  pub forth : (i : ℕ) → i < e.count → number (order i) ≡ i
  pub entries : (i : ℕ) → i < e.count → f.entry i ≡ renumbered number (e.entry (order i))
