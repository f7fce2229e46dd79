use Rattle.dconf_model.specs.Paths.{is_key_path}
use Rattle.dconf_path.specs.Paths.{key_text}
use Rattle.gvdb_maps.proofs.KeyPaths.{rest_pass, taken_as_path}
use Rattle.gvdb_maps.proofs.map.KeysIterator.next.Goals as goal

pub invariant_of-self : goal.invariant_of-self
invariant_of-self c = record { are_paths = rest_pass is_key_path c.args.self.now.rest c.next.new.self c.next.result c.next.ensures.steps c.args.self.now.are_paths }

pub returns-clause-steps : goal.returns-clause-steps
returns-clause-steps c =
    taken_as_path is_key_path key_text c.args.self.now.rest c.next.new.self c.in_ok-key.key.now c.as_str.result.now c.parse.result c.ok.result c.ok.ensures.value c.in_ok-key.ensures.steps c.args.self.now.are_paths c.as_str.ensures.value c.parse.ensures.accepts.1 c.parse.ensures.found
