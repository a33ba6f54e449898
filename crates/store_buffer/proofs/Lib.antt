mod Answered
mod Cores
mod Places
