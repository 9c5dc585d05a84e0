-- what a reader must believe: when a plan is compiled
pub mod Same
