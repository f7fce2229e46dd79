use Rattle.dconf_model.proofs.CompiledFolders.{given_holds, no_file_gives_nothing, compile_gives, compile_steps}
use Rattle.dconf_model.proofs.a_compiled_folder_holds.Goals as goal

pub returns : goal.returns
returns c = record { held = given_holds; missing = no_file_gives_nothing; compiles = compile_gives; steps = compile_steps }
