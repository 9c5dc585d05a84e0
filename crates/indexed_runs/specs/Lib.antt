pub mod IndexedRuns
