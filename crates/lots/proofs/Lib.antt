-- Each file uses only those above it.
pub mod ListLaws
pub mod Fits
pub mod Taking
pub mod LotLaws
pub mod LotWorth
pub mod LotCounts
pub mod LotTests
pub mod BalanceLaws
pub mod ProvenanceLaws
pub mod Agreement
pub mod TraceLaws
pub mod Coins
pub mod TraceJoin
