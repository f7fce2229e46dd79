-- The paths of the keys that a walk found.
use Rattle.std.proofs.Common.{◌≡◌, ℕ, List, [], ◌∷◌, map, refl, sym, ap, ap₂}
use Rattle.gv_model.proofs.ListLaws.{nil_no_cons, same_head, same_tail}
use Rattle.dconf_model.specs.Layers.{Layers}
use Rattle.dconf_layers.specs.declared.seen.SeenKey.{SeenKey}
use Rattle.dconf_layers.specs.Children.{seen_path, seen_row, shown_at}

pub paths_seen : (l : Layers) (keys : List SeenKey) (paths : List (List ℕ)) → map seen_row keys ≡ map (shown_at l) paths → map seen_path keys ≡ paths
paths_seen l [] [] e = refl
paths_seen l [] (path ∷ paths) e = absurd (nil_no_cons e)
paths_seen l (key ∷ keys) [] e = absurd (nil_no_cons (sym e))
paths_seen l (key ∷ keys) (path ∷ paths) e = ap₂ (λ p ps. p ∷ ps) (ap (λ r. r.0) (same_head e)) (paths_seen l keys paths (same_tail e))
