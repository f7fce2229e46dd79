use Rattle.std.proofs.Common.{◌≡◌, ◌≤◌, ◌+◌, ◌-◌, ◌*◌, ◌/◌, ◌↔◌, drop, length}
use Rattle.gv_model.specs.Ty.{spelling}
use Rattle.gv_types.specs.TypeStr.{ty}
use Rattle.gv_normal.proofs.FixedElements.{AreChunks, chunk_values}
use Rattle.gv_normal.proofs.array.are_normal_fixed_elements.Given as goal

-- what is left decides
abbrev pub invariant-loop-i : goal.invariant-loop-i
invariant-loop-i l = record {
  same : AreChunks l.fn.levels (ty l.fn.element) l.fn.size (length l.fn.bytes / l.fn.size - l.i) (drop (l.i * l.fn.size) l.fn.bytes) ↔ AreChunks l.fn.levels (ty l.fn.element) l.fn.size (length l.fn.bytes / l.fn.size) l.fn.bytes;
  passed : l.i ≤ length l.fn.bytes / l.fn.size;
  few : l.steps ≤ l.fn.steps + l.i * length (spelling (ty l.fn.element));
  grows : l.fn.steps ≤ l.steps;
  exact : l.steps + chunk_values (ty l.fn.element) l.fn.size (length l.fn.bytes / l.fn.size - l.i) (drop (l.i * l.fn.size) l.fn.bytes)
      ≡ l.fn.steps + chunk_values (ty l.fn.element) l.fn.size (length l.fn.bytes / l.fn.size) l.fn.bytes;
}
