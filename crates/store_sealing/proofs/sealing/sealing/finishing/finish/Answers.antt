use Rattle.std.proofs.Common.{◌≡◌, map}
use Rattle.store_versions.specs.Rows.{directory_in}
use Rattle.store_sealing.specs.Inner.Ends.{Held, held_of, held_stopped}
use Rattle.store_sealing.proofs.Came.{ends_done, ends_stopped}
use Rattle.store_sealing.proofs.SealingSealed.{pinned_before}
use Rattle.store_sealing.proofs.sealing.sealing.finishing.finish.Goals as goal

pub settle-requires : goal.settle-requires
settle-requires c = record {
  over = c.requires.over;
  allowed = c.requires.allowed;
  first = c.requires.first;
  room = c.requires.room;
  version = c.requires.version;
  made = c.requires.made;
}

pub stop-requires : goal.stop-requires
stop-requires c =
    let p = c.args.prepared in
    pinned_before c.args.ledger.now p.session p.commit.change p.commit.used c.requires.allowed

pub returns-in-Ok : goal.returns-in-Ok
returns-in-Ok c =
    let old : Held = held_of c.args.ledger.now c.args.catalog.now c.args.table.now.rows c.args.doubt.now (map (λ ready. directory_in ready.value) c.args.made.now.items) in
    let new : Held = held_of c.settle.new.ledger c.settle.new.catalog c.settle.new.table.rows c.settle.new.doubt (map (λ ready. directory_in ready.value) c.settle.new.made.items) in
    ends_done c.args.outcome.end _ c.in-Ok.is c.args.outcome.rose c.args.prepared old new c.settle.result c.settle.ensures.place c.settle.ensures.held

pub returns-in-Err : goal.returns-in-Err
returns-in-Err c =
    let p = c.args.prepared in
    let made = map (λ ready. directory_in ready.value) c.args.made.now.items in
    let old : Held = held_of c.args.ledger.now c.args.catalog.now c.args.table.now.rows c.args.doubt.now made in
    let new : Held = held_of c.stop.new.ledger c.args.catalog.now c.args.table.now.rows c.stop.new.doubt made in
    let same : new ≡ held_stopped c.in-Err.stage p c.args.outcome.rose old =
    λ i. record { ledger = c.stop.ensures.ledger i; catalog = c.args.catalog.now; rows = c.args.table.now.rows; doubt = c.stop.ensures.doubt i; made = made } in
    ends_stopped c.args.outcome.end c.in-Err.stage c.in-Err.is c.args.outcome.rose p old new _ same
