pub mod upgrades
