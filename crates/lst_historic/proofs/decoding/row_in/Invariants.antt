use Rattle.std.proofs.Common.{◌≡◌, ℕ, ◌<◌, ◌^◌, ◌++◌, List, length, drop}
use Rattle.lst_snapshots.specs.declared.versions.Version.{Version}
use Rattle.lst_historic.specs.Blocks.{AreVersions, base_of, chain_text}
use Rattle.lst_historic.specs.Decoding.{shown}
use Rattle.lst_historic.proofs.Loops.{IsLeft}
use Rattle.lst_historic.proofs.decoding.row_in.Given as goal

abbrev pub invariant-loop : goal.invariant-loop
invariant-loop l = record {
  left : (versions : List Version) (rest : List ℕ) → l.until < 2 ^ 64 → length versions < 2 ^ 64 → AreVersions l.columns l.until 0 versions → drop l.place l.bytes ≡ chain_text l.columns versions ++ rest
      → IsLeft l.columns l.until l.time versions rest l.counter l.count l.now (shown l.is_some l.cells.items) (drop l.at l.bytes);
  base : base_of l.columns (shown l.is_some l.cells.items) ≡ l.cells.items;
}
