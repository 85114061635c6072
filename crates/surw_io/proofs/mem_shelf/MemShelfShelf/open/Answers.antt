use Rattle.std.proofs.Common.{◌≡◌, ℕ, List, ◌<◌, length, Some, false, arith, ap}
use Rattle.std.proofs.lemmas.Grind.{common_steps}
use Rattle.surw_io.specs.Calls.{is_listed}
use Rattle.surw_io.specs.MemShelf.{named_bytes, file_of, bytes_at}
use Rattle.surw_io.proofs.ShelfRules.{open_ok, file_read, drop-none}
use Rattle.surw_io.proofs.mem_shelf.MemShelfShelf.open.Goals as goal

pub returns-in-Some-clause-gives : goal.returns-in-Some-clause-gives
returns-in-Some-clause-gives c =
    let files = c.self-2.inside.files.items in
    let bytes : List ℕ = bytes_at (named_bytes files) c.in-Some.place in
    let passes : is_listed c.args.self.now.fails c.args.self.now.calls ≡ false = grind (arith, common_steps) in
    let same : c.args.self.now.files ≡ named_bytes files = grind (arith, common_steps) in
    let here : c.in-Some.place < length files = grind (arith, common_steps) in
    let found : file_of (named_bytes files) c.args.name.now ≡ Some bytes = grind (arith, common_steps) in
    let long : c.len-self-inside.result ≡ length bytes = let read = ap length (file_read files _ _ here c.index.ensures) in grind (arith, common_steps) in
    open_ok c.args.self.now _ _ bytes _ passes same found (drop-none bytes _ long)
