pub mod ConsecutiveCalls
