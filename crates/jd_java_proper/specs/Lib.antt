pub mod Proper
pub mod Read
