use Rattle.std.proofs.Common.{◌≡◌, drop}
use Rattle.std.specs.List.{list_any}
use Rattle.dconf_roles.specs.Slips.{is_slip}
use Rattle.dconf_roles.proofs.slips.has_slip.Given as goal

-- the rest decides
abbrev pub invariant-loop-other : goal.invariant-loop-other
invariant-loop-other l =
    list_any (λ other. is_slip l.name other.text.now) (drop l.other-index l.others) ≡ list_any (λ other. is_slip l.name other.text.now) l.others
