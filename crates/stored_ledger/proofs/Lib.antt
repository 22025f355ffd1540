pub mod LedgerLaws
