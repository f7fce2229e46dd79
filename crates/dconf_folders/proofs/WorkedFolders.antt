-- Folders of names, computed.
use Rattle.std.specs.Prelude.{◌≡◌, ℕ, codes, refl}
use Rattle.std.specs.Path.{path_parent, split_last_component, trim_trailing, rsplit_once}
use Rattle.dconf_folders.specs.SystemCalls.{folder_of}

unfoldable computing : ℕ
unfolding path_parent split_last_component trim_trailing rsplit_once
computing = 0

plain : folder_of (codes "x") ≡ codes "."
unfolding computing
plain = refl

current : folder_of (codes "./x") ≡ codes "."
unfolding computing
current = refl

in_root : folder_of (codes "/x") ≡ codes "/"
unfolding computing
in_root = refl

in_another : folder_of (codes "etc/dconf/x") ≡ codes "etc/dconf"
unfolding computing
in_another = refl
