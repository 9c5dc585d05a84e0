use Rattle.std.proofs.Common.{rules, ◌≡◌, ◌∙◌, ap₂, length, w64, SFits}
use Rattle.integer.specs.Z.{back}
use Rattle.layout.specs.Layouts.{rank_limit}
use Rattle.walk.specs.Walking.{begins}
use Rattle.walk.specs.Walks.{start_state}
use Rattle.walk_cases.proofs.placed.PlacedWalk.put_places.Goals as goal

pub loop-k-init : goal.loop-k-init
loop-k-init g c =
    let f : length c.args.self.now.shape ≡ rank_limit = search rules in
    let sb : SFits w64 c.args.self.now.source_base = search rules in
    let db : SFits w64 c.args.self.now.dest_base = search rules in
    c.start-state.ensures ∙ ap₂ start_state (back sb) (back db) ∙ begins c.args.self.now.source_base c.args.self.now.dest_base c.args.self.now.shape c.args.self.now.rows c.args.self.now.rank c.requires.small f
