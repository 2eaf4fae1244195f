pub mod Tracker
