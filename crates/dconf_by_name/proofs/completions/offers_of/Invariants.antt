use Rattle.std.proofs.Common.{◌≡◌, map, string_bytes, take}
use Rattle.dconf_by_name.specs.Completions.{offers_of}
use Rattle.dconf_by_name.proofs.completions.offers_of.Given as goal

abbrev pub invariant-loop-name : goal.invariant-loop-name
invariant-loop-name l = string_bytes l.text ≡ offers_of l.suffix l.typed l.directory (map (λ line. line.now) (take l.name-index l.names))
