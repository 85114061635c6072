use Rattle.std.proofs.Common.{◌≡◌, ◌≤◌, length, take, arith}
use Rattle.std.proofs.lemmas.Grind.{common_steps}
use Rattle.surw_io.specs.MemShelf.{named_bytes, left_at}
use Rattle.surw_io.proofs.ShelfRules.{read_moves}
use Rattle.surw_io.proofs.mem_shelf.MemShelfShelf.read.Goals as goal

pub returns-clause-moved : goal.returns-clause-moved
returns-clause-moved c =
    let files = named_bytes c.self.inside.files.items in
    let few : c.min-n.result ≤ c.self.inside.left = grind (arith, common_steps) in
    let rest : c.rest_of-rest.result.now ≡ left_at files c.self.inside.opened c.self.inside.left = grind (arith, common_steps) in
    let long : length (left_at files c.self.inside.opened c.self.inside.left) ≡ c.self.inside.left = grind (arith, common_steps) in
    let same : c.args.self.now.left ≡ left_at files c.self.inside.opened c.self.inside.left = grind (arith, common_steps) in
    let copy : c.copy_from_slice.new.self ≡ take c.min-n.result (left_at files c.self.inside.opened c.self.inside.left) = grind (arith, common_steps) in
    read_moves files c.self.inside.opened c.self.inside.left c.min-n.result _ _ _ c.self.invariant.1 few long same copy
